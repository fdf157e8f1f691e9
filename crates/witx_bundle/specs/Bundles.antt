-- The files that the bytes of a bundle hold, by the lines of the bytes.
-- A header is a line that begins with `;;;; file ` and goes on with a path; the text of that file is what stands
-- between the header and the next one, or the end.
use Rattle.std.specs.Prelude.{◌≡◌, ℕ, ◌<◌, ◌≤◌, List, [], ◌∷◌, ◌++◌, length, drop, reverse, take_while, Bool, not, ◌||◌, ◌==◌, nat_eq, if◌then◌else◌, Option, None, Some, Result, Ok, Err, codes, position}
use Rattle.std.specs.List.{slice_split, starts_with, list_any, join_with_byte}
use Rattle.std.specs.Str.{IsUtf8}
use Rattle.std.specs.Str.Lossy.{utf8_valid_len}
use Rattle.witx_base.specs.Paths.{Path, path_of}
use Rattle.witx_files.specs.Files.{Files, text_in, same_path}
use Rattle.witx_bundle.specs.declared.bundle.TheConstants.{LONGEST_BUNDLE}
use Rattle.witx_bundle.specs.declared.error.BundleError.{BundleError}
use Rattle.witx_bundle.specs.declared.error.BundleError.TheVariants.{TooLong, NotUtf8, BeforeFirst, OutOfMemory}

-- the lines between the line feeds: the last one has none behind it
abbrev pub lines_of : List ℕ → List (List ℕ)
lines_of bytes = slice_split (λ b. b == 10) bytes

-- a line begins a file
abbrev pub is_header : List ℕ → Bool
is_header line = starts_with nat_eq line (codes ";;;; file ")

-- lines, each with a line feed behind it
abbrev pub ended_lines : List (List ℕ) → List ℕ
ended_lines [] = []
ended_lines (line ∷ more) = line ++ 10 ∷ ended_lines more

-- the text of the lines before the first header: all its lines end where a header follows, and else all but the last
abbrev pub text_before : List (List ℕ) → List ℕ
text_before lines = (if list_any is_header lines then ended_lines (take_while (λ line. not (is_header line)) lines) else join_with_byte 10 lines)

-- a line without the carriage return at its end
abbrev pub without_return : List ℕ → List ℕ
without_return [] = []
without_return (c ∷ []) = (if c == 13 then [] else c ∷ [])
without_return (c ∷ d ∷ ds) = c ∷ without_return (d ∷ ds)

-- the path of a header, by what stands behind `;;;; file `: a carriage return before its line feed is none of it, and
-- the last line has no line feed
abbrev pub path_after : List ℕ → List (List ℕ) → Path
path_after rest [] = path_of rest
path_after rest (next ∷ more) = path_of (without_return rest)

-- the path of a header with these lines behind it
abbrev pub header_path : List ℕ → List (List ℕ) → Path
header_path line more = path_after (drop 10 line) more

-- each header's path and text, in order
abbrev pub given : List (List ℕ) → Files
given [] = []
given (line ∷ more) = (if is_header line then (header_path line more, text_before more) ∷ given more else given more)

-- what a line with these behind it changes of the texts at the paths
abbrev pub with_line : List ℕ → List (List ℕ) → (Path → Option (List ℕ)) → Path → Option (List ℕ)
with_line line more at q = (if is_header line then (if same_path (header_path line more) q then Some (text_before more) else at q) else at q)

-- the text at a path: the last that is given for it
abbrev pub told_at : List (List ℕ) → Path → Option (List ℕ)
told_at lines q = text_in (reverse (given lines)) q

-- a space, a tab, a line feed or a carriage return
abbrev pub is_blank_byte : ℕ → Bool
is_blank_byte byte = (byte == 32 || byte == 9) || (byte == 10 || byte == 13)

-- the place of the first byte before the first header that is no blank
abbrev pub stray : List (List ℕ) → Option ℕ
stray lines = position (λ byte. not (is_blank_byte byte)) (text_before lines)

-- the most bytes that a bundle may have
abbrev pub limit : ℕ
limit = LONGEST_BUNDLE

-- what reading a bundle answers: a row for each answer, the refusals in their order
abbrev pub IsRead : List ℕ → Result Files BundleError → Type 0
IsRead bytes (Ok files) = (length bytes ≤ limit) × IsUtf8 bytes × (stray (lines_of bytes) ≡ None) × ((q : Path) → text_in files q ≡ told_at (lines_of bytes) q)
IsRead bytes (Err TooLong) = limit < length bytes
IsRead bytes (Err (NotUtf8 at)) = (length bytes ≤ limit) × (¬ (IsUtf8 bytes)) × (at ≡ utf8_valid_len bytes)
IsRead bytes (Err (BeforeFirst at)) = (length bytes ≤ limit) × IsUtf8 bytes × (stray (lines_of bytes) ≡ Some at)
IsRead bytes (Err OutOfMemory) = Unit {0}
