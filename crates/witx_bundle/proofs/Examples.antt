-- The definitions on small inputs.
use Rattle.std.proofs.Common.{◌≡◌, List, ℕ, [], ◌∷◌, Some, None, refl, codes}
use Rattle.witx_base.specs.Paths.{Path, path_of}
use Rattle.witx_bundle.specs.Bundles.{lines_of, given, stray, told_at}

-- blanks, `/a` with one line, `/b` with none, `/a` again with a line without a line feed
abbrev bytes : List ℕ
bytes = codes " \t\r\n;;;; file /a\r\none\n;;;; file /b\n;;;; file /a\n\ntwo"

abbrev path : List ℕ → Path
path text = path_of text

files-given : given (lines_of bytes) ≡ (path (codes "/a"), codes "one\n") ∷ (path (codes "/b"), []) ∷ (path (codes "/a"), codes "\ntwo") ∷ []
unfolding path_of
files-given = refl

last-text : told_at (lines_of bytes) (path (codes "/a")) ≡ Some (codes "\ntwo")
unfolding path_of
last-text = refl

no-stray : stray (lines_of bytes) ≡ None
no-stray = refl

-- on the last line, which no line feed ends, the carriage return belongs to the path
return-kept : given (lines_of (codes ";;;; file /a\r")) ≡ (path (codes "/a\r"), []) ∷ []
unfolding path_of
return-kept = refl

-- a header stands only at the start of a line
within-line : given (lines_of (codes ";;;; file /a\n ;;;; file /b\n")) ≡ (path (codes "/a"), codes " ;;;; file /b\n") ∷ []
unfolding path_of
within-line = refl

first-stray : stray (lines_of (codes "\n x\n;;;; file /a")) ≡ Some 2
first-stray = refl

nothing : stray (lines_of []) ≡ None
nothing = refl
