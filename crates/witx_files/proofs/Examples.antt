-- The definitions on small inputs.
use Rattle.std.proofs.Common.{◌≡◌, [], ◌∷◌, Some, None, refl, codes}
use Rattle.witx_base.specs.Paths.{Path}
use Rattle.witx_files.specs.Files.{Files, Aliases, text_in, canonical, line_at, line_in}
use Rattle.witx_files.specs.LocatedTexts.{caret}

abbrev a : Path
a = codes "/" ∷ codes "a" ∷ []

abbrev b : Path
b = codes "/" ∷ codes "b" ∷ []

abbrev c : Path
c = codes "/" ∷ codes "c" ∷ []

abbrev files : Files
files = (a, codes "one\r\n\ntwo\r") ∷ (b, []) ∷ []

-- `/b` has two aliases, of which the first holds
abbrev aliases : Aliases
aliases = (a, c) ∷ (b, a) ∷ (b, c) ∷ []

missing : text_in files c ≡ None
missing = refl

empty : text_in files b ≡ Some []
empty = refl

first-alias : canonical aliases b ≡ a
first-alias = refl

itself : canonical aliases c ≡ c
itself = refl

no-line-0 : line_in files a 0 ≡ None
no-line-0 = refl

return-dropped : line_in files a 1 ≡ Some (codes "one")
return-dropped = refl

empty-line : line_in files a 2 ≡ Some []
empty-line = refl

-- only a line feed ends a line: the last one keeps its carriage return
return-kept : line_in files a 3 ≡ Some (codes "two\r")
return-kept = refl

past-the-end : line_in files a 4 ≡ None
past-the-end = refl

no-line-of-nothing : line_in files b 1 ≡ None
no-line-of-nothing = refl

-- a line feed at the end begins no line
ended : line_at (codes "x\n") 2 ≡ None
ended = refl

caret-at-1 : caret 1 ≡ codes "         ^"
caret-at-1 = refl

caret-at-3 : caret 3 ≡ codes "           ^"
caret-at-3 = refl
