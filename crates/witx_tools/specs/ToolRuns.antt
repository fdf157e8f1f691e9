-- What all words ask of the program's top call: a command of `run`, a tool, or nothing, where they have no form.
use Rattle.std.specs.Prelude.{◌≡◌, ℕ, List, [], Bool, true, false, Option, None}
use Rattle.witx_files.specs.Files.{Files}
use Rattle.witx_adapt.specs.declared.adapted.Adapted.{Adapted}
use Rattle.witx_commands.specs.Causes.{IsOutput, IsValidFor}
use Rattle.witx_commands.specs.Reports.{CommandRefuses}
use Rattle.witx_commands.specs.Runs.{Task, form_task, task_with}
use Rattle.witx_commands.specs.Words.{Asked, command_of, is_of_run}
use Rattle.witx_commands.specs.declared.forms.Forms.TheVariants as forms
use Rattle.witx_tools.specs.ToolCauses.{IsToolOutput, IsValidForTool, ToolRefuses}

-- a tool notes nothing, and lists no adapted document
abbrev pub ToolTells : Asked → Files → (text notes : List ℕ) → Option Adapted → Type 0
ToolTells c files text notes adapted = (notes ≡ []) × (adapted ≡ None) × IsToolOutput c files text

-- the first of a command of `run`, the second of a tool
abbrev pub OfEither : (of_run : Bool) → (Run Tool : Type 0) → Type 0
OfEither true Run Tool = Run
OfEither false Run Tool = Tool

-- what any command tells over the files of a bundle, when it refuses them, and which are valid for it
abbrev pub AnyTells : Asked → Files → (text notes : List ℕ) → Option Adapted → Type 0
AnyTells c files text notes adapted =
    OfEither (is_of_run c) (IsOutput c files text notes adapted) (ToolTells c files text notes adapted)

abbrev pub AnyRefuses : Asked → Files → List ℕ → Type 0
AnyRefuses c files report = OfEither (is_of_run c) (CommandRefuses c files report) (ToolRefuses c files report)

abbrev pub IsValidForAny : Asked → Files → Type 0
IsValidForAny c files = OfEither (is_of_run c) (IsValidFor c files) (IsValidForTool c files)

abbrev pub any_task : Asked → Task
any_task c = task_with AnyTells AnyRefuses IsValidForAny c

-- WHAT WORDS ASK OF `run_all`
abbrev pub task_of_all : List (List ℕ) → Task
task_of_all words = form_task forms.All any_task (command_of forms.All words)
