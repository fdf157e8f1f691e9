-- Why there is no bundle, and what each command writes over the files of one, by what the bytes say where these are told.
use Rattle.std.specs.Prelude.{◌≡◌, ℕ, true, ◌^◌, ◌<◌, List, [], ◌∷◌, All, Option, None, Some, Result, Ok, Err}
use Rattle.witx_base.specs.Paths.{Path}
use Rattle.witx_files.specs.Files.{Files}
use Rattle.witx_bundle.specs.Bundles.{IsRead}
use Rattle.witx_bundle.specs.declared.error.BundleError.{BundleError}
use Rattle.witx_bundle.specs.declared.error.BundleError.TheVariants as bundle
use Rattle.witx_ast.specs.Definitions.{DefinitionTree}
use Rattle.witx_compat.specs.Polyfills.{MappedModule, polyfill_answer}
use Rattle.witx_render.specs.DocumentTexts.{document_text}
use Rattle.witx_layout.specs.LayoutsText.{layouts_text, typename_sizes}
use Rattle.witx_adapt.specs.declared.adapted.Adapted.{Adapted}
use Rattle.witx_adapt.specs.Adaptable.{IsAdaptable}
use Rattle.witx_adapt.specs.Listings.{listing_text}
use Rattle.witx_sample.specs.Samples.{sample_path}
use Rattle.witx_sample.specs.Summaries.{summary_text}
use Rattle.witx_commands.specs.Adapting.{IsAdapted, Parses, defined}
use Rattle.witx_docs.specs.LaidOut.{document_refusal}
use Rattle.witx_commands.specs.MeantPages.{IsPage}
use Rattle.witx_commands.specs.Mappings.{IsPolyfillText, MeansBoth, mapping_of}
use Rattle.witx_commands.specs.declared.input.InputError.{InputError}
use Rattle.witx_commands.specs.declared.input.InputError.TheVariants as input
use Rattle.witx_commands.specs.Streams.{BrokeOff, FailedWithin, NoFault, SourceSeen}
use Rattle.witx_commands.specs.Words as asked
use Rattle.witx_commands.specs.Words.{Asked, TwoFiles, bundle_bytes, paths_of, reads_source}
use Rattle.witx_commands.specs.declared.refusal.Stop.{Stop}
use Rattle.witx_commands.specs.declared.refusal.Stop.TheVariants as stop
use Rattle.witx_commands.specs.declared.refusal.Refusal.TheVariants as refusal

-- what reading the bytes as a bundle answers, where they are told
abbrev pub IsBundle : Option (List ℕ) → Result Files BundleError → Type 0
IsBundle None r = Unit {0}
IsBundle (Some bytes) r = IsRead bytes r

abbrev pub IsCause : BundleError → Type 0
IsCause bundle.OutOfMemory = ⊥
IsCause _ = Unit {0}

-- why the source wasn't read through, or only so far
abbrev pub ReadCause : (most : ℕ) → SourceSeen → InputError → Type 0
ReadCause most s input.Source = FailedWithin most s
ReadCause most s (input.Bundle e) = ⊥
ReadCause most s input.OutOfMemory = NoFault s

-- why no bundle was read
abbrev pub InputCause : SourceSeen → InputError → Type 0
InputCause s input.Source = BrokeOff s
InputCause s (input.Bundle e) = NoFault s × IsCause e × IsBundle s.left (Err e)
InputCause s input.OutOfMemory = NoFault s

-- why there are no files for a command: only one that works on its source's bundle has a cause in it
abbrev pub FilesCause : Asked → SourceSeen → InputError → Type 0
FilesCause c s input.Source = (reads_source c ≡ true) × BrokeOff s
FilesCause c s (input.Bundle e) =
    (reads_source c ≡ true) × NoFault s × IsCause e × IsBundle (bundle_bytes c s.left) (Err e)
FilesCause c s input.OutOfMemory = NoFault s

-- the end of a run that has no bundle
abbrev pub stop_of : InputError → Stop
stop_of input.Source = stop.Refused refusal.Source
stop_of (input.Bundle e) = stop.Refused (refusal.Bundle e)
stop_of input.OutOfMemory = stop.OutOfMemory

-- this text of the adapted document that the files at these paths mean
abbrev pub IsAdaptedText : (Adapted → List ℕ) → Files → List Path → List ℕ → Option Adapted → Type 0
IsAdaptedText text_for files handed text None = ⊥
IsAdaptedText text_for files handed text (Some a) =
    Parses files handed (Ok (defined a)) × IsAdapted a × (text ≡ text_for a)

-- the document that they mean, printed
abbrev pub IsPrinted : Files → List Path → List ℕ → Type 0
IsPrinted files handed text = (ds : List DefinitionTree) × Parses files handed (Ok ds) × (text ≡ document_text ds)

-- the layouts of the document that they mean
abbrev pub IsLayoutsText : Files → List Path → List ℕ → Type 0
IsLayoutsText files handed text =
    (ds : List DefinitionTree) × Parses files handed (Ok ds) × All (λ size. size < 2 ^ 64) (typename_sizes ds)
    × (text ≡ layouts_text ds)

-- the page of the document that they mean, and its notes
abbrev pub IsMeantPage : Files → List Path → (text notes : List ℕ) → Type 0
IsMeantPage files handed text notes = (ds : List DefinitionTree) × Parses files handed (Ok ds) × IsPage ds text notes

-- the report on the modules of the old file in terms of those of the new one
abbrev pub IsPolyfill : Files → TwoFiles → List ℕ → Type 0
IsPolyfill files two text =
    (new : List DefinitionTree) × (old : List DefinitionTree) × MeansBoth files two new old
    × IsPolyfillText new old two.names text

-- the text that a command of `run` writes over the files of a bundle, its notes, and the value that it lists: a row for each; nothing
-- is told of the others here
unfoldable pub IsOutput : Asked → Files → (text notes : List ℕ) → Option Adapted → Type 0
IsOutput (asked.adapt paths) files text notes adapted =
    (notes ≡ []) × IsAdaptedText listing_text files (paths_of paths) text adapted
IsOutput (asked.print paths) files text notes adapted =
    (notes ≡ []) × (adapted ≡ None) × IsPrinted files (paths_of paths) text
IsOutput (asked.layouts paths) files text notes adapted =
    (notes ≡ []) × (adapted ≡ None) × IsLayoutsText files (paths_of paths) text
IsOutput (asked.docs paths) files text notes adapted = (adapted ≡ None) × IsMeantPage files (paths_of paths) text notes
IsOutput (asked.polyfill two) files text notes adapted = (notes ≡ []) × (adapted ≡ None) × IsPolyfill files two text
IsOutput (asked.sample n) files text notes adapted =
    (notes ≡ []) × IsAdaptedText summary_text files (sample_path ∷ []) text adapted
IsOutput (asked.shim two) files text notes adapted = ⊥
IsOutput (asked.verify own) files text notes adapted = ⊥
IsOutput (asked.invoke names own) files text notes adapted = ⊥
IsOutput (asked.imports own) files text notes adapted = ⊥

-- what is written of an adapted document
abbrev pub adapted_text : Asked → Adapted → List ℕ
adapted_text (asked.sample n) a = summary_text a
adapted_text _ a = listing_text a

-- the files at these paths mean a document
abbrev pub HasMeaning : Files → List Path → Type 0
HasMeaning files handed = (ds : List DefinitionTree) × Parses files handed (Ok ds)

-- they mean one that can be adapted
abbrev pub CanAdapt : Files → List Path → Type 0
CanAdapt files handed = (ds : List DefinitionTree) × Parses files handed (Ok ds) × IsAdaptable ds

-- they mean one whose typenames all have a size
abbrev pub HasSizes : Files → List Path → Type 0
HasSizes files handed = (ds : List DefinitionTree) × Parses files handed (Ok ds)
    × All (λ size. size < 2 ^ 64) (typename_sizes ds)

-- they mean one that has a page
abbrev pub HasPage : Files → List Path → Type 0
HasPage files handed = (ds : List DefinitionTree) × Parses files handed (Ok ds) × (document_refusal ds ≡ None)

-- the new file and the old one mean documents whose modules and functions are all there
abbrev pub CanMap : Files → TwoFiles → Type 0
CanMap files two = (new : List DefinitionTree) × (old : List DefinitionTree) × MeansBoth files two new old
    × (modules : List MappedModule) × (polyfill_answer new old (mapping_of two.names) ≡ Ok modules)

-- the files mean a document of which the command tells everything
abbrev pub IsValidFor : Asked → Files → Type 0
IsValidFor (asked.adapt paths) files = CanAdapt files (paths_of paths)
IsValidFor (asked.print paths) files = HasMeaning files (paths_of paths)
IsValidFor (asked.layouts paths) files = HasSizes files (paths_of paths)
IsValidFor (asked.docs paths) files = HasPage files (paths_of paths)
IsValidFor (asked.polyfill two) files = CanMap files two
IsValidFor (asked.sample n) files = CanAdapt files (sample_path ∷ [])
IsValidFor (asked.shim two) files = ⊥
IsValidFor (asked.verify own) files = ⊥
IsValidFor (asked.invoke names own) files = ⊥
IsValidFor (asked.imports own) files = ⊥

-- the definitions of the document that the bytes of a bundle mean, where they are told
abbrev pub IsMeaning : (left : Option (List ℕ)) → (handed : List Path) → List DefinitionTree → Type 0
IsMeaning None handed ds = Unit {0}
IsMeaning (Some bytes) handed ds = (files : Files) × IsRead bytes (Ok files) × Parses files handed (Ok ds)
