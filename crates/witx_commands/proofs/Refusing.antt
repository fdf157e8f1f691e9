-- What a call below refuses is what the call above it refuses.
use Rattle.std.specs.Prelude.{◌≡◌, ℕ, List, All, Any, Option, Some, None, [], ◌∷◌, Result, Ok, Err, IfOk, map, codes, ◌<◌, ◌≤◌, ◌^◌}
use Rattle.std.proofs.Common.{append_assoc, inl, inr, subst, sym}
use Rattle.witx_base.specs.Paths.{Path}
use Rattle.witx_files.specs.Files.{Files, Aliases}
use Rattle.witx_files.specs.declared.fault.IoFault.TheVariants as io_fault
use Rattle.witx_ast.specs.Definitions.{DefinitionTree, definition_tree}
use Rattle.witx_walk.specs.Answers.{HasCause}
use Rattle.witx_walk.specs.declared.error.WitxError.{WitxError}
use Rattle.witx_walk.specs.declared.error.WitxError.TheVariants as witx_error
use Rattle.witx_adapt.specs.declared.error.DocumentError.{DocumentError}
use Rattle.witx_adapt.specs.declared.error.DocumentError.TheVariants as document_error
use Rattle.witx_adapt.specs.Adaptable.{IsAdaptable, RefusesDocument}
use Rattle.witx_adapt.specs.declared.adapted.Adapted.{Adapted}
use Rattle.witx_layout.specs.Layouts.{all_layouts}
use Rattle.witx_adapt.specs.Entries.{IsFaithful, all_functions, entry_for, entry_of}
use Rattle.witx_adapt.specs.Listings.{listing_text}
use Rattle.witx_render.specs.DocumentTexts.{document_text}
use Rattle.witx_layout.specs.LayoutsText.{layouts_text, typename_sizes}
use Rattle.witx_sample.specs.Samples.{sample_path}
use Rattle.witx_sample.specs.Summaries.{summary_text}
use Rattle.witx_docs.proofs.Lines.{behind}
use Rattle.witx_commands.specs.Causes.{IsAdaptedText, IsOutput}
use Rattle.witx_commands.specs.Stops.{StopsWith}
use Rattle.witx_commands.specs.declared.output.Output.{Output}
use Rattle.witx_commands.specs.declared.refusal.Stop.{Stop}
use Rattle.witx_commands.specs.declared.refusal.Stop.TheVariants as stop
use Rattle.witx_commands.specs.declared.refusal.Refusal.TheVariants as refusal
use Rattle.witx_commands.specs.Words as asked
use Rattle.witx_commands.specs.Words.{paths_of}
use Rattle.witx_commands.specs.Reports.{AdaptingFails, CommandRefuses, ParsingFails, IsAdaptReport, IsDocumentReport, IsSizeReport, IsTextReport, IsUnadaptedReport}
use Rattle.witx_commands.specs.declared.error.Unadapted.{Unadapted}
use Rattle.witx_commands.specs.declared.error.Unadapted.TheVariants as unadapted
use Rattle.witx_commands.specs.Adapting.{AdaptRefuses, HasAdaptCause, IsAdapted, IsMeantByFiles, IsParsedDocument, Parses, RefusesBundle, defined, document_error_refusal, unadapted_refusal, text_refusal}

pub texts-refused : (files : Option Files) (aliases : Option Aliases) (handed : List Path) (before now : ℕ) (e : WitxError) → IsParsedDocument files aliases handed before now (Err e)
    → AdaptRefuses files aliases handed before now (text_refusal e)
texts-refused files aliases handed before now (witx_error.Io p f) h = (tt, h)
texts-refused files aliases handed before now (witx_error.Parse e) h = (tt, h)
texts-refused files aliases handed before now (witx_error.Validation e) h = (tt, h)
texts-refused files aliases handed before now (witx_error.BadPath p) h = (tt, h)
texts-refused files aliases handed before now (witx_error.TooManyFiles p) h = (tt, h)
texts-refused files aliases handed before now witx_error.OutOfMemory h = tt

pub document-refused : (files : Option Files) (aliases : Option Aliases) (handed : List Path) (before now : ℕ) (ds : List DefinitionTree) (e : DocumentError)
    → IsParsedDocument files aliases handed before now (Ok ds) → RefusesDocument ds e → AdaptRefuses files aliases handed before now (document_error_refusal e)
document-refused files aliases handed before now ds (document_error.TagTooNarrow t) h r = (ds, h, r)
document-refused files aliases handed before now ds (document_error.TooLarge n) h r = (ds, h, r)
document-refused files aliases handed before now ds (document_error.Unlowerable m f p) h r = (ds, h, r)
document-refused files aliases handed before now ds document_error.OutOfMemory h r = tt

pub texts-caused : (IsNameless : Path → Type 0) (files : Option Files) (before now : ℕ) (e : WitxError) → HasCause IsNameless files before now e → HasAdaptCause IsNameless files before now (text_refusal e)
texts-caused N files before now (witx_error.Io p io_fault.NotFound) h = h
texts-caused N files before now (witx_error.Io p io_fault.LineNotFound) h = h
texts-caused N files before now (witx_error.Io p io_fault.Failed) h = h
texts-caused N files before now (witx_error.Parse e) h = h
texts-caused N files before now (witx_error.Validation e) h = h
texts-caused N files before now (witx_error.BadPath p) h = h
texts-caused N files before now (witx_error.TooManyFiles p) h = h
texts-caused N files before now witx_error.OutOfMemory h = h

pub document-caused : (IsNameless : Path → Type 0) (files : Option Files) (before now : ℕ) (e : DocumentError) → now ≡ before → HasAdaptCause IsNameless files before now (document_error_refusal e)
document-caused N files before now (document_error.TagTooNarrow t) h = h
document-caused N files before now (document_error.TooLarge n) h = h
document-caused N files before now (document_error.Unlowerable m f p) h = h
document-caused N files before now document_error.OutOfMemory h = h

pub ruleset refusing_rules = (texts-refused, document-refused, texts-caused, document-caused)

-- the parts of what adapt answers
pub adapted-parts : (a : Adapted) → a.layouts ≡ all_layouts (defined a) → map entry_of a.functions ≡ map entry_for (all_functions (defined a)) → All IsFaithful a.functions → IsAdaptable (defined a) → IsAdapted a
adapted-parts a l f t k = record { layouts = l; functions = f; faithful = t; adaptable = k }

pub ruleset bundle_rules = (adapted-parts)

-- a report of a document that is handed back is that of what is told
document-told : (files : Files) (handed : List Path) (ds : List DefinitionTree) (e : DocumentError) (report : List ℕ) → Parses files handed (Ok ds) → IsDocumentReport ds e report
    → IsAdaptReport files handed (document_error_refusal e) report
unfolding IsAdaptReport
document-told files handed ds (document_error.TagTooNarrow t) report h k = (ds, h, k)
document-told files handed ds (document_error.TooLarge n) report h k = (ds, h, k)
document-told files handed ds (document_error.Unlowerable m f p) report h k = (ds, h, k)
document-told files handed ds document_error.OutOfMemory report h k = absurd k

texts-told : (files : Files) (handed : List Path) (e : WitxError) (report : List ℕ) → IsTextReport files e report → IsAdaptReport files handed (text_refusal e) report
unfolding IsAdaptReport IsTextReport
texts-told files handed (witx_error.Io p f) report k = k
texts-told files handed (witx_error.Parse e) report k = k
texts-told files handed (witx_error.Validation e) report k = k
texts-told files handed (witx_error.BadPath p) report k = k
texts-told files handed (witx_error.TooManyFiles p) report k = k
texts-told files handed witx_error.OutOfMemory report k = absurd k.0

unadapted-told : (files : Files) (handed : List Path) (u : Unadapted) (report : List ℕ) → IsMeantByFiles (Some files) (Some []) handed 0 0 u → IsUnadaptedReport files u report
    → IsAdaptReport files handed (unadapted_refusal u) report
unfolding IsUnadaptedReport
unadapted-told files handed (unadapted.Texts e) report h k = texts-told files handed e report k
unadapted-told files handed (unadapted.Document r) report h k = document-told files handed (map definition_tree r.document.definitions) r.error report h k

-- what ends a run, by its report
pub stops-as : (P Q : List ℕ → Type 0) → ((report : List ℕ) → P report → Q report) → (s : Stop) → StopsWith P s → StopsWith Q s
stops-as P Q f (stop.Refused (refusal.Usage known)) k = k
stops-as P Q f (stop.Refused refusal.Source) k = k
stops-as P Q f (stop.Refused (refusal.Bundle b)) k = k
stops-as P Q f (stop.Refused (refusal.Command report)) k = f report k
stops-as P Q f stop.OutOfMemory k = tt

pub memory-stops : (P : List ℕ → Type 0) (s : Stop) → s ≡ stop.OutOfMemory → StopsWith P s
memory-stops P s h = subst (StopsWith P) (sym h) tt

-- files that mean no document, or that can't be adapted
pub parsing-stops : (files : Files) (handed paths : List Path) (e : WitxError) (s : Stop) → handed ≡ paths → Parses files handed (Err e) → StopsWith (IsTextReport files e) s
    → StopsWith (ParsingFails files paths) s
parsing-stops files handed paths e s same h k =
    subst (λ ps. StopsWith (ParsingFails files ps) s) same (stops-as (IsTextReport files e) (ParsingFails files handed) (λ report told. (e, h, told)) s k)

pub adapting-stops : (files : Files) (handed : List Path) (u : Unadapted) (s : Stop) → RefusesBundle files handed u → StopsWith (IsUnadaptedReport files u) s
    → StopsWith (AdaptingFails files handed) s
unfolding RefusesBundle
adapting-stops files handed u s h k =
    stops-as (IsUnadaptedReport files u) (AdaptingFails files handed) (λ report told. (unadapted_refusal u, h.0, unadapted-told files handed u report h.1 told)) s k

pub parsed-paths : (files : Files) (handed paths : List Path) (ds : List DefinitionTree) → handed ≡ paths → Parses files handed (Ok ds) → Parses files paths (Ok ds)
parsed-paths files handed paths ds same h = subst (λ ps. Parses files ps (Ok ds)) same h

pub ruleset stop_rules = (memory-stops, parsing-stops, adapting-stops, parsed-paths)

-- the output of each command
pub adapt-output : (files : Files) (handed : List Path) (words : List (List ℕ)) (text notes : List ℕ) (a : Adapted) (adapted : Option Adapted)
    → handed ≡ paths_of words → Parses files handed (Ok (defined a)) → IsAdapted a → text ≡ listing_text a → (notes ≡ []) × (adapted ≡ Some a)
    → IsOutput (asked.adapt words) files text notes adapted
unfolding IsOutput
adapt-output files handed words text notes a adapted same p k e (n, v) =
    (n, subst (IsAdaptedText listing_text files (paths_of words) text) (sym v) (subst (λ ps. Parses files ps (Ok (defined a))) same p, k, e))

pub summary-output : (n : ℕ) (files : Files) (path : Path) (text notes : List ℕ) (a : Adapted) (adapted : Option Adapted)
    → path ≡ sample_path → Parses files (path ∷ []) (Ok (defined a)) → IsAdapted a → text ≡ summary_text a → (notes ≡ []) × (adapted ≡ Some a)
    → IsOutput (asked.sample n) files text notes adapted
unfolding IsOutput
summary-output n files path text notes a adapted same p k e (none, v) =
    (none, subst (IsAdaptedText summary_text files (sample_path ∷ []) text) (sym v) (subst (λ q. Parses files (q ∷ []) (Ok (defined a))) same p, k, e))

pub summary-told : (n : ℕ) (files : Files) (path : Path) (a : Adapted) (r : Result Output Stop) → path ≡ sample_path
    → Parses files (path ∷ []) (Ok (defined a)) → IsAdapted a → IfOk r (λ o. o.text ≡ summary_text a) → IfOk r (λ o. (o.notes ≡ []) × (o.adapted ≡ Some a))
    → IfOk r (λ o. IsOutput (asked.sample n) files o.text o.notes o.adapted)
summary-told n files path a (Ok o) same p k e v = summary-output n files path o.text o.notes a o.adapted same p k e v
summary-told n files path a (Err s) same p k e v = tt

pub print-output : (files : Files) (words : List (List ℕ)) (text notes : List ℕ) (ds : List DefinitionTree) (adapted : Option Adapted)
    → Parses files (paths_of words) (Ok ds) → text ≡ document_text ds → (notes ≡ []) × (adapted ≡ None) → IsOutput (asked.print words) files text notes adapted
unfolding IsOutput
print-output files words text notes ds adapted p e (n, v) = (n, v, (ds, p, e))

pub layouts-output : (files : Files) (words : List (List ℕ)) (text notes : List ℕ) (ds : List DefinitionTree) (adapted : Option Adapted)
    → Parses files (paths_of words) (Ok ds) → All (λ size. size < 2 ^ 64) (typename_sizes ds) → text ≡ layouts_text ds → (notes ≡ []) × (adapted ≡ None)
    → IsOutput (asked.layouts words) files text notes adapted
unfolding IsOutput
layouts-output files words text notes ds adapted p l e (n, v) = (n, v, (ds, p, l, e))

-- and what each refuses
pub adapt-refused : (files : Files) (handed : List Path) (words : List (List ℕ)) (s : Stop) → handed ≡ paths_of words → StopsWith (AdaptingFails files handed) s
    → StopsWith (CommandRefuses (asked.adapt words) files) s
unfolding CommandRefuses
adapt-refused files handed words s same k =
    stops-as (AdaptingFails files (paths_of words)) (CommandRefuses (asked.adapt words) files) (λ report h. h) s
    (subst (λ ps. StopsWith (AdaptingFails files ps) s) same k)

pub summary-refused : (n : ℕ) (files : Files) (path : Path) (s : Stop) → path ≡ sample_path → StopsWith (AdaptingFails files (path ∷ [])) s
    → StopsWith (CommandRefuses (asked.sample n) files) s
unfolding CommandRefuses
summary-refused n files path s same k =
    stops-as (AdaptingFails files (sample_path ∷ [])) (CommandRefuses (asked.sample n) files) (λ report h. h) s
    (subst (λ q. StopsWith (AdaptingFails files (q ∷ [])) s) same k)

pub print-refused : (files : Files) (words : List (List ℕ)) (s : Stop) → StopsWith (ParsingFails files (paths_of words)) s
    → StopsWith (CommandRefuses (asked.print words) files) s
unfolding CommandRefuses
print-refused files words s k = stops-as (ParsingFails files (paths_of words)) (CommandRefuses (asked.print words) files) (λ report h. h) s k

pub layouts-refused : (files : Files) (words : List (List ℕ)) (s : Stop) → StopsWith (ParsingFails files (paths_of words)) s
    → StopsWith (CommandRefuses (asked.layouts words) files) s
unfolding CommandRefuses
layouts-refused files words s k = stops-as (ParsingFails files (paths_of words)) (CommandRefuses (asked.layouts words) files) (λ report h. inl h) s k

pub layouts-large : (files : Files) (words : List (List ℕ)) (ds : List DefinitionTree) (s : Stop) → Parses files (paths_of words) (Ok ds) → StopsWith (IsSizeReport ds) s
    → StopsWith (CommandRefuses (asked.layouts words) files) s
unfolding CommandRefuses
layouts-large files words ds s p k = stops-as (IsSizeReport ds) (CommandRefuses (asked.layouts words) files) (λ report h. inr (ds, p, h)) s k

pub ruleset command_rules = (memory-stops, adapt-output, summary-output, print-output, layouts-output, adapt-refused, summary-refused, print-refused, layouts-refused, layouts-large)

pub size-stops : (ds : List DefinitionTree) (s : Stop) → Any (λ size. 2 ^ 64 ≤ size) (typename_sizes ds) → StopsWith (λ report. report ≡ codes "size too large") s → StopsWith (IsSizeReport ds) s
size-stops ds s h k = stops-as (λ report. report ≡ codes "size too large") (IsSizeReport ds) (λ report e. (h, e)) s k

pub ruleset size_rules = (size-stops)

-- texts put behind a text
pub ruleset text_rules = (behind, append_assoc)
