-- What adapting the files at some paths answers: the document that they mean, with the layouts of its typenames and a
-- faithful pair of traces for each function; or the refusal that comes first, with its place.
use Rattle.std.specs.Prelude.{◌≡◌, ℕ, List, [], map, All, Option, Some, Ok, Err}
use Rattle.witx_base.specs.Paths.{Path}
use Rattle.witx_files.specs.Files.{Files, Aliases}
use Rattle.witx_ast.specs.Closed.{IsClosed}
use Rattle.witx_ast.specs.Definitions.{DefinitionTree, definition_tree}
use Rattle.witx_ast.specs.Ordered.{IsOrdered}
use Rattle.witx_ast.specs.declared.definition.Definition.{Definition}
use Rattle.witx_walk.specs.Answers.{Answer, HasCause, IsWalkAnswer}
use Rattle.witx_walk.specs.declared.error.WitxError.{WitxError}
use Rattle.witx_walk.specs.declared.error.WitxError.TheVariants as witx_error
use Rattle.witx_adapt.specs.declared.adapted.Adapted.{Adapted}
use Rattle.witx_adapt.specs.declared.error.DocumentError.{DocumentError}
use Rattle.witx_adapt.specs.declared.error.DocumentError.TheVariants as document_error
use Rattle.witx_layout.specs.Layouts.{all_layouts}
use Rattle.witx_adapt.specs.Entries.{IsFaithful, all_functions, entry_for, entry_of}
use Rattle.witx_adapt.specs.Adaptable.{IsAdaptable, RefusesDocument}
use Rattle.witx_commands.specs.declared.error.AdaptError.{AdaptError}
use Rattle.witx_commands.specs.declared.error.AdaptError.TheVariants as adapt_error
use Rattle.witx_commands.specs.declared.error.Unadapted.{Unadapted}
use Rattle.witx_commands.specs.declared.error.Unadapted.TheVariants as unadapted

-- what the document of an adapted value defines
abbrev pub defined : Adapted → List DefinitionTree
defined a = map definition_tree a.document.definitions

-- its functions are those of its document, each with its signature and its events
abbrev pub HasEntries : Adapted → Type 0
HasEntries a = map entry_of a.functions ≡ map entry_for (all_functions (defined a))

-- its parts are those of its document
pub record IsAdapted (a : Adapted) : Type 0 where
  pub layouts : a.layouts ≡ all_layouts (defined a)
  pub functions : HasEntries a
  pub faithful : All IsFaithful a.functions
  pub adaptable : IsAdaptable (defined a)

-- definitions of a document that is ordered, and of one that is closed
abbrev pub AreOrdered : List Definition → Type 0
AreOrdered definitions = IsOrdered (map definition_tree definitions)

abbrev pub AreClosed : List Definition → Type 0
AreClosed definitions = IsClosed (map definition_tree definitions)

-- what reading the files at these paths answers: the document that they mean, or the refusal that comes first
unfoldable pub IsParsedDocument : Option Files → Option Aliases → List Path → (before now : ℕ) → Answer → Type 0
IsParsedDocument = IsWalkAnswer

-- any refusal of texts but want of memory
abbrev pub IsTextRefusal : WitxError → Type 0
IsTextRefusal witx_error.OutOfMemory = ⊥
IsTextRefusal _ = Unit {0}

-- the files mean a document that this refuses
abbrev pub DocumentRefused : Option Files → Option Aliases → List Path → (before now : ℕ) → DocumentError → Type 0
DocumentRefused files aliases handed before now e =
    (ds : List DefinitionTree) × IsParsedDocument files aliases handed before now (Ok ds) × RefusesDocument ds e

-- when each refusal comes
abbrev pub AdaptRefuses : Option Files → Option Aliases → List Path → (before now : ℕ) → AdaptError → Type 0
AdaptRefuses files aliases handed before now (adapt_error.Refused e) =
    IsTextRefusal e × IsParsedDocument files aliases handed before now (Err e)
AdaptRefuses files aliases handed before now (adapt_error.TagTooNarrow t) =
    DocumentRefused files aliases handed before now (document_error.TagTooNarrow t)
AdaptRefuses files aliases handed before now (adapt_error.TooLarge n) =
    DocumentRefused files aliases handed before now (document_error.TooLarge n)
AdaptRefuses files aliases handed before now (adapt_error.Unlowerable m f p) =
    DocumentRefused files aliases handed before now (document_error.Unlowerable m f p)
AdaptRefuses files aliases handed before now adapt_error.OutOfMemory = Unit {0}

-- what is so of a refusal over any reader, whether or not it tells its files
abbrev pub HasAdaptCause : (Path → Type 0) → Option Files → (before now : ℕ) → AdaptError → Type 0
HasAdaptCause IsNameless files before now (adapt_error.Refused e) = HasCause IsNameless files before now e
HasAdaptCause IsNameless files before now _ = now ≡ before

-- over the files of a bundle, where no path stands for another and no call fails
abbrev pub Parses : Files → List Path → Answer → Type 0
Parses files handed r = IsParsedDocument (Some files) (Some []) handed 0 0 r

-- the document of an adapted value is the one that they mean
abbrev pub AdaptsFiles : Files → List Path → Adapted → Type 0
AdaptsFiles files handed a = Parses files handed (Ok (defined a))

unfoldable pub AdaptRefusesBundle : Files → List Path → AdaptError → Type 0
AdaptRefusesBundle files handed e = AdaptRefuses (Some files) (Some []) handed 0 0 e

-- what a refusal of texts, and one of a document, become
abbrev pub text_refusal : WitxError → AdaptError
text_refusal witx_error.OutOfMemory = adapt_error.OutOfMemory
text_refusal (witx_error.Io p f) = adapt_error.Refused (witx_error.Io p f)
text_refusal (witx_error.Parse e) = adapt_error.Refused (witx_error.Parse e)
text_refusal (witx_error.Validation e) = adapt_error.Refused (witx_error.Validation e)
text_refusal (witx_error.BadPath p) = adapt_error.Refused (witx_error.BadPath p)
text_refusal (witx_error.TooManyFiles p) = adapt_error.Refused (witx_error.TooManyFiles p)

abbrev pub document_error_refusal : DocumentError → AdaptError
document_error_refusal (document_error.TagTooNarrow t) = adapt_error.TagTooNarrow t
document_error_refusal (document_error.TooLarge n) = adapt_error.TooLarge n
document_error_refusal (document_error.Unlowerable m f p) = adapt_error.Unlowerable m f p
document_error_refusal document_error.OutOfMemory = adapt_error.OutOfMemory

-- what is told of files that can't be adapted
abbrev pub unadapted_refusal : Unadapted → AdaptError
unadapted_refusal (unadapted.Texts e) = text_refusal e
unadapted_refusal (unadapted.Document r) = document_error_refusal r.error

-- a document that is handed back is the one that the files mean
abbrev pub IsMeantByFiles : Option Files → Option Aliases → List Path → (before now : ℕ) → Unadapted → Type 0
IsMeantByFiles files aliases handed before now (unadapted.Texts e) = Unit {0}
IsMeantByFiles files aliases handed before now (unadapted.Document r) =
    IsParsedDocument files aliases handed before now (Ok (map definition_tree r.document.definitions))

-- so over the files of a bundle
unfoldable pub RefusesBundle : Files → List Path → Unadapted → Type 0
RefusesBundle files handed u =
    AdaptRefusesBundle files handed (unadapted_refusal u) × IsMeantByFiles (Some files) (Some []) handed 0 0 u
