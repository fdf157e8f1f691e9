-- The documentation text of a list of comments, byte for byte; a comment is the text behind its `;;`.
-- White space is Unicode's `White_Space`, and a line is cut only where a character of its UTF-8 begins.
use Rattle.std.specs.Prelude.{ℕ, ◌-◌, ◌<◌, List, [], ◌∷◌, ◌++◌, Bool, ◌==◌, if◌then◌else◌, length, drop, map, filter, min, nat_lt, unwrap_or, Option, Some, None}
use Rattle.std.specs.List.{filter_map, flat_map, reduce, AllByRecursion}
use Rattle.std.specs.Option.{option_and_then}
use Rattle.std.specs.Str.{trim_start, trim_end, IsCharBoundary}
use Rattle.std.specs.Fmt.Cut.{floor_char_boundary}

-- what stands behind a `;` that begins the text
abbrev pub after_semicolon : List ℕ → Option (List ℕ)
after_semicolon [] = None
after_semicolon (b ∷ line) = if b == 59 then Some line else None

-- the line that a comment gives: without its trailing white space it begins with a `;`
abbrev pub doc_line : List ℕ → Option (List ℕ)
doc_line comment = after_semicolon (trim_end comment)

abbrev pub doc_lines : List (List ℕ) → List (List ℕ)
doc_lines comments = filter_map doc_line comments

-- how many bytes of white space a line begins with
abbrev pub indent_of : List ℕ → ℕ
indent_of line = length line - length (trim_start line)

abbrev pub is_nonempty : List ℕ → Bool
is_nonempty line = nat_lt 0 (length line)

-- the indent of the line that a comment gives, where that is nonempty
abbrev pub indent_in : List ℕ → Option ℕ
indent_in comment = option_and_then (λ line. if is_nonempty line then Some (indent_of line) else None) (doc_line comment)

-- the smallest indent of the nonempty lines, 0 if there is none
unfoldable pub margin_of : List (List ℕ) → ℕ
margin_of lines = unwrap_or (reduce min (map indent_of (filter is_nonempty lines))) 0

-- the line from the last character boundary at or below the margin on
abbrev pub cut_line : ℕ → List ℕ → List ℕ
cut_line margin line = drop (floor_char_boundary line margin) line

-- each line cut at the margin, and a line feed behind each
unfoldable pub text_of_lines : ℕ → List (List ℕ) → List ℕ
text_of_lines margin lines = flat_map (λ line. cut_line margin line ++ (10 ∷ [])) lines

-- the documentation text
unfoldable pub documentation_of : List (List ℕ) → List ℕ
documentation_of comments = text_of_lines (margin_of (doc_lines comments)) (doc_lines comments)

-- the line, unless it is empty, is cut where one of its characters begins
abbrev pub IsCutBetweenCharacters : ℕ → List ℕ → Type 0
IsCutBetweenCharacters margin line = 0 < length line → IsCharBoundary line (floor_char_boundary line margin)

-- no line is cut inside a character
abbrev pub AreCutBetweenCharacters : List (List ℕ) → Type 0
AreCutBetweenCharacters lines = AllByRecursion (IsCutBetweenCharacters (margin_of lines)) lines
