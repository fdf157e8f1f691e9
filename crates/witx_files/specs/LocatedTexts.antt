-- A place in a file as a report shows it: the path, and below it the line with a caret under the column.
-- The caret stands one place right of the column that it marks; a column past the widest is drawn as that.
use Rattle.std.specs.Prelude.{◌≡◌, ℕ, ◌-◌, min, List, ◌++◌, ◌≤◌, length, replicate, codes, Option, None, Some, Result, Ok, Err, ◌⊎◌}
use Rattle.std.specs.Fmt.{decimal}
use Rattle.witx_base.specs.Causes.{Rose}
use Rattle.witx_base.specs.Paths.{Path, path_text}
use Rattle.witx_base.specs.declared.memory.OutOfMemory.{OutOfMemory}
use Rattle.witx_files.specs.Files.{Files, line_in}
use Rattle.witx_files.specs.declared.location.Location.{Location}
use Rattle.witx_files.specs.declared.location.TheConstants.{WIDEST}

-- a text with blanks before it, up to so many places
abbrev pub right_aligned : ℕ → List ℕ → List ℕ
right_aligned places text = replicate (places - length text) 32 ++ text

-- `in "PATH":` and a line feed
abbrev pub heading : Path → List ℕ
heading path = codes "in \"" ++ (path_text path ++ codes "\":\n")

-- the number in 5 places, ` | `, the line and a line feed
abbrev pub numbered_line : ℕ → List ℕ → List ℕ
numbered_line number line = right_aligned 5 (decimal number) ++ (codes " | " ++ (line ++ codes "\n"))

-- nine blanks, and the caret in as many places as the column
abbrev pub caret : ℕ → List ℕ
caret column = replicate 9 32 ++ right_aligned (min column WIDEST) (codes "^")

-- the heading, and the line with its caret where it is shown
abbrev pub located_text : Location → Option (List ℕ) → List ℕ
located_text at None = heading at.path
located_text at (Some line) = heading at.path ++ (numbered_line at.line line ++ caret at.column)

-- what may be shown: the line of told files, or none where they lack it; of files that aren't told, any line
abbrev pub MayShow : Option Files → Location → Option (List ℕ) → Type 0
MayShow None at shown = (line : List ℕ) × (shown ≡ Some line)
MayShow (Some files) at shown = shown ≡ line_in files at.path at.line

-- the answer, with the reader's count of faults before and after: only where a fault was counted is a line left out
-- that may be shown
abbrev pub IsLocatedText : Option Files → Location → ℕ → ℕ → Result (List ℕ) OutOfMemory → Type 0
IsLocatedText files at before now (Ok text) =
    ((shown : Option (List ℕ)) × MayShow files at shown × (text ≡ located_text at shown) × (now ≡ before))
    ⊎ ((text ≡ located_text at None) × (before ≤ now) × Rose before now)
IsLocatedText files at before now (Err out_of_memory) = now ≡ before
