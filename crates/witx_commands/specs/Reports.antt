-- The report of a command's refusal, byte for byte. The names in it are those of the document that the files mean.
use Rattle.std.specs.Prelude.{◌≡◌, ◌⊎◌, ℕ, ◌^◌, ◌≤◌, List, [], ◌∷◌, ◌++◌, Any, Option, Some, None, Ok, Err, map, slice_get, codes}
use Rattle.std.specs.Option.{option_and_then}
use Rattle.std.specs.Fmt.{decimal}
use Rattle.witx_base.specs.Paths.{Path}
use Rattle.witx_files.specs.Files.{Files}
use Rattle.witx_ast.specs.Tree.{Field}
use Rattle.witx_ast.specs.Functions.{FunctionTree}
use Rattle.witx_ast.specs.Items.{func_called}
use Rattle.witx_ast.specs.Definitions.{DefinitionTree, definition_tree, typename_of, module_of, constant_of, ModuleTree, module_called}
use Rattle.witx_layout.specs.declared.tags.TagTooNarrow.{TagTooNarrow}
use Rattle.witx_layout.specs.LayoutsText.{typename_sizes}
use Rattle.witx_machine.specs.declared.surface.Place.{Place}
use Rattle.witx_adapt.specs.declared.error.DocumentError.{DocumentError}
use Rattle.witx_adapt.specs.declared.error.DocumentError.TheVariants as document_error
use Rattle.witx_sample.specs.Samples.{sample_path}
use Rattle.witx_walk.specs.declared.error.WitxError.{WitxError}
use Rattle.witx_walk.specs.ErrorReports.{IsErrorReport}
use Rattle.witx_commands.specs.declared.error.AdaptError.{AdaptError}
use Rattle.witx_commands.specs.declared.error.AdaptError.TheVariants as adapt_error
use Rattle.witx_commands.specs.declared.error.Unadapted.{Unadapted}
use Rattle.witx_commands.specs.declared.error.Unadapted.TheVariants as unadapted
use Rattle.witx_commands.specs.Adapting.{AdaptRefusesBundle, IsTextRefusal, Parses}
use Rattle.witx_commands.specs.MeantPages.{IsPageReport}
use Rattle.witx_commands.specs.Mappings.{IsAbsentReport, MeansBoth}
use Rattle.witx_commands.specs.Words as asked
use Rattle.witx_commands.specs.Words.{Asked, TwoFiles, paths_of}

abbrev pub definition_name : DefinitionTree → List ℕ
definition_name (typename_of name t docs) = name
definition_name (module_of m) = m.name
definition_name (constant_of c) = c.name

abbrev pub name_or_nothing : Option DefinitionTree → List ℕ
name_or_nothing None = []
name_or_nothing (Some d) = definition_name d

-- the name of the definition of this number
abbrev pub definition_name_at : List DefinitionTree → ℕ → List ℕ
definition_name_at ds n = name_or_nothing (slice_get ds n)

-- a name in backquotes, before what is said of it
abbrev pub named_before : List ℕ → List ℕ
named_before name = codes "`" ++ (name ++ codes "`: ")

abbrev pub counts_text : (count most : ℕ) → List ℕ
counts_text count most = decimal count ++ (codes " flags or cases, at most " ++ decimal most)

abbrev pub tag_report : List ℕ → TagTooNarrow → List ℕ
tag_report name t = named_before name ++ counts_text t.count t.most

abbrev pub size_report : List ℕ → List ℕ
size_report name = named_before name ++ codes "size too large"

-- a parameter or a result of a function, at its place
abbrev pub field_at : FunctionTree → Place → Option Field
field_at f (Place.Param i) = slice_get f.params i
field_at f (Place.Result i) = slice_get f.results i

abbrev pub field_name : Option Field → List ℕ
field_name None = []
field_name (Some p) = p.called

-- the name of that part of the function of the module
abbrev pub part_name : List DefinitionTree → (owner function : List ℕ) → Place → List ℕ
part_name ds owner function place =
    field_name (option_and_then (λ f. field_at f place)
    (option_and_then (λ (m : ModuleTree). func_called m.items function) (module_called ds owner)))

abbrev pub part_word : Place → List ℕ
part_word (Place.Param i) = codes "parameter"
part_word (Place.Result i) = codes "result"

abbrev pub owner_text : List ℕ → List ℕ
owner_text owner = codes "` of module `" ++ (owner ++ codes "`: ")

abbrev pub function_called : (owner function : List ℕ) → List ℕ
function_called owner function = codes "function `" ++ (function ++ owner_text owner)

abbrev pub refused_text : List ℕ → List ℕ
refused_text part = codes " `" ++ (part ++ codes "` cannot be lowered")

abbrev pub part_text : (word part : List ℕ) → List ℕ
part_text word part = word ++ refused_text part

abbrev pub unlowerable_report : (owner function : List ℕ) → Place → (part : List ℕ) → List ℕ
unlowerable_report owner function place part = function_called owner function ++ part_text (part_word place) part

-- the report of a refusal of texts
unfoldable pub IsTextReport : Files → WitxError → List ℕ → Type 0
IsTextReport files e report = IsTextRefusal e × IsErrorReport (Some files) e 0 0 (Ok report)

-- the report of a refusal of a document, with the names that it has there
abbrev pub IsDocumentReport : List DefinitionTree → DocumentError → List ℕ → Type 0
IsDocumentReport ds (document_error.TagTooNarrow t) report = report ≡ tag_report (definition_name_at ds t.definition) t
IsDocumentReport ds (document_error.TooLarge n) report = report ≡ size_report (definition_name_at ds n)
IsDocumentReport ds (document_error.Unlowerable m f p) report = report ≡ unlowerable_report m f p (part_name ds m f p)
IsDocumentReport ds document_error.OutOfMemory report = ⊥

-- the report of files that can't be adapted
unfoldable pub IsUnadaptedReport : Files → Unadapted → List ℕ → Type 0
IsUnadaptedReport files (unadapted.Texts e) report = IsTextReport files e report
IsUnadaptedReport files (unadapted.Document r) report =
    IsDocumentReport (map definition_tree r.document.definitions) r.error report

-- the files mean a document of whose refusal this is the report
abbrev pub IsMeantReport : Files → List Path → DocumentError → List ℕ → Type 0
IsMeantReport files handed e report =
    (ds : List DefinitionTree) × Parses files handed (Ok ds) × IsDocumentReport ds e report

-- the report of each refusal of adapt, over the files of a bundle
unfoldable pub IsAdaptReport : Files → List Path → AdaptError → List ℕ → Type 0
IsAdaptReport files handed (adapt_error.Refused e) report = IsTextReport files e report
IsAdaptReport files handed (adapt_error.TagTooNarrow t) report =
    IsMeantReport files handed (document_error.TagTooNarrow t) report
IsAdaptReport files handed (adapt_error.TooLarge n) report =
    IsMeantReport files handed (document_error.TooLarge n) report
IsAdaptReport files handed (adapt_error.Unlowerable m f p) report =
    IsMeantReport files handed (document_error.Unlowerable m f p) report
IsAdaptReport files handed adapt_error.OutOfMemory report = ⊥

-- the report where a typename is too large for its layout to be shown
abbrev pub IsSizeReport : List DefinitionTree → List ℕ → Type 0
IsSizeReport ds report = Any (λ size. 2 ^ 64 ≤ size) (typename_sizes ds) × (report ≡ codes "size too large")

-- the files at these paths mean no document, and this is the report
abbrev pub ParsingFails : Files → List Path → List ℕ → Type 0
ParsingFails files handed report = (e : WitxError) × Parses files handed (Err e) × IsTextReport files e report

-- they can't be adapted, and this is the report
abbrev pub AdaptingFails : Files → List Path → List ℕ → Type 0
AdaptingFails files handed report =
    (e : AdaptError) × AdaptRefusesBundle files handed e × IsAdaptReport files handed e report

-- they mean a document with a typename that is too large, and this is the report
abbrev pub SizesFail : Files → List Path → List ℕ → Type 0
SizesFail files handed report = (ds : List DefinitionTree) × Parses files handed (Ok ds) × IsSizeReport ds report

-- the new file means no document, or it does and the old file doesn't, and this is the report
abbrev pub BothFail : Files → TwoFiles → List ℕ → Type 0
BothFail files two report = ParsingFails files (paths_of (two.new ∷ [])) report
    ⊎ ((new : List DefinitionTree) × Parses files (paths_of (two.new ∷ [])) (Ok new)
    × ParsingFails files (paths_of (two.old ∷ [])) report)

-- both do, a module or a function is absent, and this is the report
abbrev pub MappingFails : Files → TwoFiles → List ℕ → Type 0
MappingFails files two report =
    (new : List DefinitionTree) × (old : List DefinitionTree) × MeansBoth files two new old
    × IsAbsentReport new old two.names report

-- they mean a document that has no page, and this is the report
abbrev pub PageFails : Files → List Path → List ℕ → Type 0
PageFails files handed report = (ds : List DefinitionTree) × Parses files handed (Ok ds) × IsPageReport ds report

-- the call of a command of `run` refuses the files of a bundle, with this report: a row for each; nothing is told of the others here
unfoldable pub CommandRefuses : Asked → Files → List ℕ → Type 0
CommandRefuses (asked.adapt paths) files report = AdaptingFails files (paths_of paths) report
CommandRefuses (asked.print paths) files report = ParsingFails files (paths_of paths) report
CommandRefuses (asked.layouts paths) files report =
    ParsingFails files (paths_of paths) report ⊎ SizesFail files (paths_of paths) report
CommandRefuses (asked.docs paths) files report =
    ParsingFails files (paths_of paths) report ⊎ PageFails files (paths_of paths) report
CommandRefuses (asked.polyfill two) files report = BothFail files two report ⊎ MappingFails files two report
CommandRefuses (asked.sample n) files report = AdaptingFails files (sample_path ∷ []) report
CommandRefuses (asked.shim two) files report = ⊥
CommandRefuses (asked.verify own) files report = ⊥
CommandRefuses (asked.invoke names own) files report = ⊥
CommandRefuses (asked.imports own) files report = ⊥
