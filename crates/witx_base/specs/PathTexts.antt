-- The text of a path, and the parts between its slashes.
use Rattle.std.specs.Prelude.{◌≡◌, ℕ, ◌+◌, List, [], ◌∷◌, false, ◌==◌, if◌then◌else◌}
use Rattle.std.specs.Hash as fed
use Rattle.std.specs.List.{AllByRecursion}
use Rattle.std.specs.Ordering.{nat_cmp}
use Rattle.std.specs.declared.cmp.Ordering.{Ordering}
use Rattle.witx_base.specs.Paths.{Path, is_root, path_of, path_text}

abbrev pub HasNoSlash : List ℕ → Type 0
HasNoSlash = AllByRecursion (λ b. (b == 47) ≡ false)

-- whether a text is a path as it is written
abbrev pub IsPathText : List ℕ → Type 0
IsPathText text = path_text (path_of text) ≡ text

-- the parts of a path's text: that of an absolute path begins with an empty part, and nothing is one empty part
abbrev pub or_empty : Path → List (List ℕ)
or_empty [] = [] ∷ []
or_empty (c ∷ cs) = c ∷ cs

abbrev pub path_text_parts : Path → List (List ℕ)
path_text_parts [] = [] ∷ []
path_text_parts (c ∷ cs) = (if is_root c then [] ∷ or_empty cs else c ∷ cs)

-- bytes in the order in which a slash stands before every other byte
abbrev pub rank : ℕ → ℕ
rank byte = (if byte == 47 then 0 else byte + 1)

abbrev pub slash_first : ℕ → ℕ → Ordering
slash_first byte other = nat_cmp (rank byte) (rank other)

-- what a path hands to a hasher: the number of its components, and each of them
abbrev pub fed_path : Path → fed.HashWrites
fed_path p = fed.slice fed.str p
