-- One text as the only file, at the path `-`: no path stands for another, and no call fails.
use Rattle.std.specs.Prelude.{ℕ, List, [], ◌∷◌, Option, None, Some, codes, if◌then◌else◌}
use Rattle.witx_base.specs.Paths.{Path}
use Rattle.witx_base.specs.PathOrder.{same_path}
use Rattle.witx_files.specs.declared.fault.IoFault.TheVariants.{NotFound, LineNotFound, Failed}
use Rattle.witx_scope.specs.Faults.{Fault}
use Rattle.witx_order.specs.Walks.{World}
use Rattle.witx_order.specs.Verdicts.{Verdict, IsVerdict}
use Rattle.witx_walk.specs.Readings.{FileReading, IsReading}
use Rattle.witx_walk.specs.Meaning.{fault_behind}
use Rattle.witx_walk.specs.Answers.{Answer, Answers, AgreesWith}
use Rattle.witx_walk.specs.declared.error.WitxError.{WitxError}
use Rattle.witx_walk.specs.declared.error.WitxError.TheVariants.{Io, Parse, Validation, BadPath, TooManyFiles, OutOfMemory}

abbrev pub source_path : Path
source_path = codes "-" ∷ []

abbrev pub source_file : List ℕ → Path → Option (List ℕ)
source_file source path = (if same_path source_path path then Some source else None)

abbrev pub source_world : List ℕ → FileReading → World Fault
source_world source reading = record { text_at = source_file source; canonical = λ path. path; reading = reading; fault_of = fault_behind }

-- the answer to the one file: its document, or its refusal
abbrev pub IsSourceAnswer : List ℕ → Answer → Type 0
IsSourceAnswer source r = (reading : FileReading) → IsReading reading → Answers (source_world source reading) (source_path ∷ []) 0 0 r

-- it is the verdict
abbrev pub IsSourceVerdict : List ℕ → Answer → Type 0
IsSourceVerdict source r =
    (reading : FileReading) → IsReading reading → (v : Verdict Fault) → IsVerdict (source_world source reading) (source_path ∷ []) v → AgreesWith v r

-- the refusals that one file can have: neither is its path without a file name, nor are there too many files, nor does a
-- call fail
abbrev pub IsOfOneFile : WitxError → Type 0
IsOfOneFile (BadPath path) = ⊥
IsOfOneFile (TooManyFiles path) = ⊥
IsOfOneFile (Io path NotFound) = Unit {0}
IsOfOneFile (Io path LineNotFound) = ⊥
IsOfOneFile (Io path Failed) = ⊥
IsOfOneFile (Parse e) = Unit {0}
IsOfOneFile (Validation e) = Unit {0}
IsOfOneFile OutOfMemory = Unit {0}
