-- What the words and the bytes of a bundle decide: words that have a form of `run` ask the same of `run_all`, and a tool doesn't
-- refuse a bundle that is valid for it. And which refusals of a shim are told.
use Rattle.std.specs.Prelude.{◌≡◌, ℕ, List, All, Option, Some, None, Ok, Bool, true, false, IsTrue}
use Rattle.witx_base.specs.Paths.{Path}
use Rattle.witx_files.specs.Files.{Files}
use Rattle.witx_bundle.specs.Bundles.{IsRead}
use Rattle.witx_ast.specs.Definitions.{DefinitionTree}
use Rattle.witx_adapt.specs.Adaptable.{IsAdaptable}
use Rattle.witx_compat.specs.Polyfills.{MappedFunction, MappedModule, polyfill_answer}
use Rattle.witx_shim.specs.Refusals as refusals
use Rattle.witx_shim.specs.Refusals.{ShimRefusal, refusal_of}
use Rattle.witx_commands.specs.Adapting.{Parses}
use Rattle.witx_adapt.specs.declared.adapted.Adapted.{Adapted}
use Rattle.witx_commands.specs.Runs.{IsRun, SinkSeen, task_of}
use Rattle.witx_commands.specs.Streams.{SourceSeen}
use Rattle.witx_commands.specs.Words.{Asked, command_of, is_of_run}
use Rattle.witx_commands.specs.declared.forms.Forms.TheVariants as forms
use Rattle.witx_tools.specs.ToolCauses.{IsValidForTool, ToolRefuses}
use Rattle.witx_tools.specs.ToolRuns.{task_of_all}

-- they are the same command
abbrev pub AllKnowCommands : Type 0
AllKnowCommands = (words : List (List ℕ)) (c : Asked) → command_of forms.Commands words ≡ Some c
    → (command_of forms.All words ≡ Some c) × (is_of_run c ≡ true)

-- and what only `run_all` knows is a tool
abbrev pub OthersAreTools : Type 0
OthersAreTools = (words : List (List ℕ)) (c : Asked) → command_of forms.All words ≡ Some c
    → command_of forms.Commands words ≡ None
    → is_of_run c ≡ false

-- and a run of `run_all` with words that have a form of `run` is one of `run`; whether a device was touched is told by any test
abbrev pub RunsAlike : Type 0
RunsAlike = (words : List (List ℕ)) (c : Asked) → command_of forms.Commands words ≡ Some c
    → (source : SourceSeen) (status : ℕ) (value : Option Adapted) (out err : SinkSeen)
    (source_kept out_kept err_kept : Bool)
    → IsRun (record { task = task_of_all words; source = source })
    status value out err (IsTrue source_kept) (IsTrue out_kept) (IsTrue err_kept)
    → IsRun (record { task = task_of words; source = source })
    status value out err (IsTrue source_kept) (IsTrue out_kept) (IsTrue err_kept)

-- for any two readings of one bundle
abbrev pub ValidIsNotRefusedByTools : Type 0
ValidIsNotRefusedByTools = (bytes : List ℕ) (files others : Files) → IsRead bytes (Ok files) → IsRead bytes (Ok others)
    → (c : Asked) (report : List ℕ) → IsValidForTool c others → ToolRefuses c files report → ⊥

-- there is a shim, or one of the two refusals that are told of it: the functions aren't compatible, or their ABIs differ
abbrev pub IsToldShim : Option ShimRefusal → Type 0
IsToldShim None = Unit {0}
IsToldShim (Some refusals.not_compatible) = Unit {0}
IsToldShim (Some refusals.other_abi) = Unit {0}
IsToldShim (Some _) = ⊥

-- so of each function that is mapped of two documents which files mean and which can be adapted: no parameter's name stands twice, and
-- each function can be lowered
abbrev pub ShimsTellTwoRefusals : Type 0
ShimsTellTwoRefusals = (files : Files) (news olds : List Path) (new old : List DefinitionTree)
    → Parses files news (Ok new) → Parses files olds (Ok old)
    → IsAdaptable new → IsAdaptable old → (names : List (List ℕ × List ℕ)) (modules : List MappedModule)
    → polyfill_answer new old names ≡ Ok modules
    → All (λ (m : MappedModule). All (λ (f : MappedFunction). IsToldShim (refusal_of f)) m.functions) modules
