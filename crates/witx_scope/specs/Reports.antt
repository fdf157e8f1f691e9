-- The report of a fault: its place as the file shows it, and the message; for a name that stands already its earlier
-- place too. A line of a file is left out only where a located text leaves it out.
use Rattle.std.specs.Prelude.{◌≡◌, ◌≤◌, ℕ, List, ◌++◌, codes, Option, Some, None, Result, Ok, Err}
use Rattle.witx_base.specs.declared.memory.OutOfMemory.{OutOfMemory}
use Rattle.witx_files.specs.Files.{Files}
use Rattle.witx_files.specs.LocatedTexts.{IsLocatedText}
use Rattle.witx_files.specs.declared.location.Location.{Location}
use Rattle.witx_scope.specs.Faults.{Fault, name_already_exists}
use Rattle.witx_scope.specs.Messages.{message, fault_location}

-- where the name of a repeated name stands first
abbrev pub earlier_location : Fault → Option Location
earlier_location (name_already_exists n at earlier) = Some earlier
earlier_location _ = None

-- the text behind the first located text, where the reader's count of faults goes from `before` to `now`
abbrev pub IsReportEnd : Option Files → List ℕ → Option Location → ℕ → ℕ → List ℕ → Type 0
IsReportEnd files said None before now text = (now ≡ before) × (text ≡ codes "\n" ++ said)
IsReportEnd files said (Some earlier) before now text =
    (place : List ℕ) × IsLocatedText files earlier before now (Ok place) × (text ≡ codes "\n" ++ (said ++ (codes "\nOriginally defined at:\n" ++ place)))

-- the whole text; want of memory may come after a counted fault
abbrev pub IsReport : Option Files → Fault → ℕ → ℕ → Result (List ℕ) OutOfMemory → Type 0
IsReport files f before now (Ok text) =
    (place : List ℕ) × (end : List ℕ) × (between : ℕ)
    × IsLocatedText files (fault_location f) before between (Ok place)
    × IsReportEnd files (message f) (earlier_location f) between now end
    × (text ≡ place ++ end)
IsReport files f before now (Err out_of_memory) = before ≤ now
