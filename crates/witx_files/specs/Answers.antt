-- What a call of a reader of files may answer: what is told, or the cause for which it isn't.
-- A reader that doesn't tell its files may answer any text, and never that a file or a line is missing.
use Rattle.std.specs.Prelude.{◌≡◌, ℕ, ◌≤◌, List, Option, None, Some, Result, Ok, Err}
use Rattle.witx_base.specs.Causes.{Rose}
use Rattle.witx_base.specs.Paths.{Path}
use Rattle.witx_files.specs.Files.{Files, Aliases, text_in, canonical, line_at, line_in}
use Rattle.witx_files.specs.declared.fault.IoError.{IoError}
use Rattle.witx_files.specs.declared.fault.IoError.TheVariants.{Fault, OutOfMemory}
use Rattle.witx_files.specs.declared.fault.IoFault.TheVariants.{NotFound, LineNotFound, Failed}

-- the files, where they are told, have this text at the path
abbrev pub Holds : Option Files → Path → List ℕ → Type 0
Holds None p text = Unit {0}
Holds (Some files) p text = text_in files p ≡ Some text

-- the files are told, and have nothing at the path
abbrev pub Lacks : Option Files → Path → Type 0
Lacks None p = ⊥
Lacks (Some files) p = text_in files p ≡ None

-- the files, where they are told, have this line in the text at the path
abbrev pub HoldsLine : Option Files → Path → ℕ → List ℕ → Type 0
HoldsLine None p n line = Unit {0}
HoldsLine (Some files) p n line = line_in files p n ≡ Some line

-- the files are told, and the text at the path has no such line
abbrev pub LacksLine : Option Files → Path → ℕ → Type 0
LacksLine None p n = ⊥
LacksLine (Some files) p n = (text : List ℕ) × (text_in files p ≡ Some text) × (line_at text n ≡ None)

-- the first path stands for the second, where aliases are told
abbrev pub StandsFor : Option Aliases → Path → Path → Type 0
StandsFor None p q = Unit {0}
StandsFor (Some aliases) p q = q ≡ canonical aliases p

-- an answer, with the count of faults before and after the call: a row for each
abbrev pub IsAnswer : {T : Type 0} → (T → Type 0) → Type 0 → Type 0 → ℕ → ℕ → Result T IoError → Type 0
IsAnswer right lacks lacks_line before now (Ok answer) = right answer × (now ≡ before)
IsAnswer right lacks lacks_line before now (Err (Fault NotFound)) = lacks × (now ≡ before)
IsAnswer right lacks lacks_line before now (Err (Fault LineNotFound)) = lacks_line × (now ≡ before)
IsAnswer right lacks lacks_line before now (Err (Fault Failed)) = (before ≤ now) × Rose before now
IsAnswer right lacks lacks_line before now (Err OutOfMemory) = now ≡ before

-- an answer to the wish for a text, which has no line to miss
abbrev pub IsText : Option Files → Path → ℕ → ℕ → Result (List ℕ) IoError → Type 0
IsText files p before now r = IsAnswer (Holds files p) (Lacks files p) ⊥ before now r

-- an answer to the wish for a line
abbrev pub IsLine : Option Files → Path → ℕ → ℕ → ℕ → Result (List ℕ) IoError → Type 0
IsLine files p n before now r = IsAnswer (HoldsLine files p n) (Lacks files p) (LacksLine files p n) before now r

-- an answer to the wish for the path that one stands for, which misses nothing
abbrev pub IsCanonical : Option Aliases → Path → ℕ → ℕ → Result Path IoError → Type 0
IsCanonical aliases p before now r = IsAnswer (StandsFor aliases p) ⊥ ⊥ before now r

-- an answer to the wish for a line of a text that is at hand
abbrev pub IsLineOf : List ℕ → ℕ → Result (List ℕ) IoError → Type 0
IsLineOf text n (Ok line) = line_at text n ≡ Some line
IsLineOf text n (Err (Fault LineNotFound)) = line_at text n ≡ None
IsLineOf text n (Err (Fault NotFound)) = ⊥
IsLineOf text n (Err (Fault Failed)) = ⊥
IsLineOf text n (Err OutOfMemory) = Unit {0}
