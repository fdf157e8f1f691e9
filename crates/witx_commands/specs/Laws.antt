-- What the bytes of a bundle and the words decide: a command that has its output over the files of a bundle doesn't refuse
-- them, and valid input isn't refused. The same of told files and aliases: where they mean a document that can be adapted,
-- they are refused only for want of memory, unless a call failed.
use Rattle.std.specs.Prelude.{◌≡◌, ℕ, List, Option, Some, Ok}
use Rattle.witx_base.specs.Causes.{Rose}
use Rattle.witx_base.specs.Paths.{Path}
use Rattle.witx_files.specs.Files.{Aliases, Files}
use Rattle.witx_bundle.specs.Bundles.{IsRead}
use Rattle.witx_ast.specs.Definitions.{DefinitionTree}
use Rattle.witx_adapt.specs.declared.adapted.Adapted.{Adapted}
use Rattle.witx_adapt.specs.Adaptable.{IsAdaptable}
use Rattle.witx_commands.specs.declared.error.AdaptError.{AdaptError}
use Rattle.witx_commands.specs.declared.error.AdaptError.TheVariants as adapt_error
use Rattle.witx_commands.specs.Adapting.{AdaptRefuses, IsParsedDocument}
use Rattle.witx_commands.specs.Words.{Asked}
use Rattle.witx_commands.specs.Reports.{CommandRefuses}
use Rattle.witx_commands.specs.Causes.{IsOutput, IsValidFor}

-- two readings of one bundle never give an output and a refusal
abbrev pub OutputOrRefusal : Type 0
OutputOrRefusal = (bytes : List ℕ) (files others : Files) → IsRead bytes (Ok files) → IsRead bytes (Ok others)
    → (c : Asked) (text notes report : List ℕ) (adapted : Option Adapted) → IsOutput c others text notes adapted
    → CommandRefuses c files report → ⊥

-- a bundle whose files are valid for a command isn't refused by it
abbrev pub ValidIsNotRefused : Type 0
ValidIsNotRefused = (bytes : List ℕ) (files others : Files) → IsRead bytes (Ok files) → IsRead bytes (Ok others)
    → (c : Asked) (report : List ℕ) → IsValidFor c others → CommandRefuses c files report → ⊥

-- told files that are valid are refused only for want of memory, where no call failed
abbrev pub ValidFilesAreNotRefused : Type 0
ValidFilesAreNotRefused = (files : Files) (aliases : Aliases) (handed : List Path) (ds : List DefinitionTree)
    → IsParsedDocument (Some files) (Some aliases) handed 0 0 (Ok ds) → IsAdaptable ds
    → (before now : ℕ) (e : AdaptError) → (Rose before now → ⊥)
    → AdaptRefuses (Some files) (Some aliases) handed before now e → e ≡ adapt_error.OutOfMemory
