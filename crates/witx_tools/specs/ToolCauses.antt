-- What a tool, a command that `run` doesn't have, tells over the files of a bundle, and when it refuses them: where the file of its
-- own is missing, else as `adapt` refuses the first document that can't be adapted, else by the tool's own refusals, a row for each.
use Rattle.std.specs.Prelude.{◌≡◌, ◌⊎◌, ℕ, List, [], ◌∷◌, map, Option, Some, None, Ok}
use Rattle.witx_base.specs.Paths.{Path, path_of}
use Rattle.witx_files.specs.Files.{Files, text_in}
use Rattle.witx_files.specs.declared.fault.IoFault.TheVariants.{NotFound}
use Rattle.witx_ast.specs.Definitions.{DefinitionTree}
use Rattle.witx_compat.specs.Polyfills.{MappedModule, polyfill_answer}
use Rattle.witx_walk.specs.ErrorReports.{io_report}
use Rattle.witx_adapt.specs.Entries.{Entry, all_functions}
use Rattle.witx_adapt.specs.declared.adapted.Adapted.{Adapted}
use Rattle.witx_traces.specs.Traces.{GivesTraces, Sides}
use Rattle.witx_imports.specs.Faults.{offered_import}
use Rattle.witx_imports.specs.Reads as list
use Rattle.witx_imports.specs.declared.import.WasmImport.{WasmImport}
use Rattle.witx_commands.specs.Adapting.{IsAdapted, Parses, defined}
use Rattle.witx_commands.specs.Causes.{CanAdapt, CanMap}
use Rattle.witx_commands.specs.Mappings.{MeansBoth, mapping_of}
use Rattle.witx_commands.specs.Reports.{AdaptingFails, MappingFails}
use Rattle.witx_commands.specs.Words as asked
use Rattle.witx_commands.specs.Words.{Asked, FunctionNames, OwnFile, TwoFiles, paths_of}
use Rattle.witx_tools.specs.Calls.{CanCall, IsNamedText, NamedFails, entries_of, first_named}
use Rattle.witx_tools.specs.ImportTexts.{IsBadList, faults_text}
use Rattle.witx_tools.specs.ShimTexts.{shims_text}
use Rattle.witx_tools.specs.VerdictTexts.{IsUnfitListing, listed_for, verdicts_text}

-- the path of a tool's own file: a row for each that has one
abbrev pub own_path : Asked → Option Path
own_path (asked.verify listing) = Some (path_of listing.file)
own_path (asked.invoke names values) = Some (path_of values.file)
own_path (asked.imports own) = Some (path_of own.file)
own_path _ = None

-- the words of the files of each document that a tool adapts, in order: a row for each
abbrev pub adapted_files : Asked → List (List (List ℕ))
adapted_files (asked.shim two) = (two.new ∷ []) ∷ (two.old ∷ []) ∷ []
adapted_files (asked.verify listing) = listing.paths ∷ []
adapted_files (asked.invoke names values) = values.paths ∷ []
adapted_files (asked.imports own) = own.paths ∷ []
adapted_files _ = []

-- the bundle holds a tool's own file, if it has one
abbrev pub HoldsOwn : Option Path → Files → Type 0
HoldsOwn None files = Unit {0}
HoldsOwn (Some path) files = (text : List ℕ) × (text_in files path ≡ Some text)

-- it doesn't, and this is the report
abbrev pub LacksOwn : Option Path → Files → List ℕ → Type 0
LacksOwn None files report = ⊥
LacksOwn (Some path) files report = (text_in files path ≡ None) × (report ≡ io_report path NotFound)

-- the files at the paths of each of these words can be adapted
abbrev pub CanAdaptAll : Files → List (List (List ℕ)) → Type 0
CanAdaptAll files [] = Unit {0}
CanAdaptAll files (words ∷ more) = CanAdapt files (paths_of words) × CanAdaptAll files more

-- those of one can't, the first such, and this is the report of `adapt`
abbrev pub OneIsUnadapted : Files → List (List (List ℕ)) → List ℕ → Type 0
OneIsUnadapted files [] report = ⊥
OneIsUnadapted files (words ∷ more) report =
    AdaptingFails files (paths_of words) report ⊎ (CanAdapt files (paths_of words) × OneIsUnadapted files more report)

-- a file of a tool's own is missing, or the document behind it can't be adapted, and this is the report
unfoldable pub OpeningFails : Files → OwnFile → List ℕ → Type 0
OpeningFails files own report =
    LacksOwn (Some (path_of own.file)) files report
    ⊎ (HoldsOwn (Some (path_of own.file)) files × AdaptingFails files (paths_of own.paths) report)

-- the bundle holds this text, and the files behind it mean this document
abbrev pub IsOwnText : Files → OwnFile → List ℕ → List DefinitionTree → Type 0
IsOwnText files own text ds = (text_in files (path_of own.file) ≡ Some text) × Parses files (paths_of own.paths) (Ok ds)

-- the listing gives the functions of the document these traces
abbrev pub ListingReads : Files → OwnFile → List DefinitionTree → List Sides → Type 0
ListingReads files own ds sides =
    (listing : List ℕ) × IsOwnText files own listing ds × GivesTraces (listed_for ds) listing sides

-- a line of it can't stand there, and this is the report of the first such
abbrev pub ListingFails : Files → OwnFile → List ℕ → Type 0
ListingFails files own report =
    (ds : List DefinitionTree) × (listing : List ℕ) × IsOwnText files own listing ds
    × IsUnfitListing (listed_for ds) listing report

-- the function with these names can be called with these values
abbrev pub CallReads : Files → FunctionNames → OwnFile → Type 0
CallReads files names own =
    (ds : List DefinitionTree) × (values : List ℕ) × IsOwnText files own values ds
    × (e : Entry) × (first_named names (entries_of ds) ≡ Some e) × CanCall e values

-- there is no such call, and this is the report
abbrev pub CallRefuses : Files → FunctionNames → OwnFile → List ℕ → Type 0
CallRefuses files names own report =
    (ds : List DefinitionTree) × (values : List ℕ) × IsOwnText files own values ds
    × NamedFails names (first_named names (entries_of ds)) values report

-- the list of imports is read so
abbrev pub ListReads : Files → Path → List WasmImport → Type 0
ListReads files path imports = (text : List ℕ) × (text_in files path ≡ Some text) × list.Lists text imports

-- the text at the path of the list is none, and this is the report
abbrev pub ListFails : Files → Path → List ℕ → Type 0
ListFails files path report = (text : List ℕ) × (text_in files path ≡ Some text) × IsBadList path text report

-- what a tool refuses by itself: a row for each tool
abbrev pub OwnRefuses : Asked → Files → List ℕ → Type 0
OwnRefuses (asked.shim two) files report = MappingFails files two report
OwnRefuses (asked.verify listing) files report = ListingFails files listing report
OwnRefuses (asked.invoke names values) files report = CallRefuses files names values report
OwnRefuses (asked.imports own) files report = ListFails files (path_of own.file) report
OwnRefuses _ files report = ⊥

-- WHEN A TOOL REFUSES the files of a bundle, and with which report
unfoldable pub ToolRefuses : Asked → Files → List ℕ → Type 0
ToolRefuses c files report =
    LacksOwn (own_path c) files report
    ⊎ (HoldsOwn (own_path c) files
    × (OneIsUnadapted files (adapted_files c) report
    ⊎ (CanAdaptAll files (adapted_files c) × OwnRefuses c files report)))

-- the shims of the modules of the old file by those of the new one
abbrev pub AreShims : Files → TwoFiles → List ℕ → Type 0
AreShims files two text =
    (new : List DefinitionTree) × (old : List DefinitionTree) × MeansBoth files two new old
    × (modules : List MappedModule) × (polyfill_answer new old (mapping_of two.names) ≡ Ok modules)
    × (text ≡ shims_text modules)

-- the verdicts on the traces that the listing gives the functions of the document behind it
abbrev pub AreVerdicts : Files → OwnFile → List ℕ → Type 0
AreVerdicts files own text =
    (ds : List DefinitionTree) × (sides : List Sides) × ListingReads files own ds sides
    × (text ≡ verdicts_text (all_functions ds) sides)

-- the call of the function with these names, with the values of the file
abbrev pub IsCall : Files → FunctionNames → OwnFile → List ℕ → Type 0
IsCall files names own text =
    (ds : List DefinitionTree) × (values : List ℕ) × IsOwnText files own values ds
    × IsNamedText names (entries_of ds) values text

-- the faults of the imports of the list, held against the document of the files behind it
abbrev pub AreFaults : Files → OwnFile → List ℕ → Type 0
AreFaults files own text =
    (imports : List WasmImport) × ListReads files (path_of own.file) imports
    × (a : Adapted) × Parses files (paths_of own.paths) (Ok (defined a)) × IsAdapted a
    × (text ≡ faults_text (map offered_import a.functions) imports)

-- the text of a tool: a row for each tool
abbrev pub IsToolText : Asked → Files → List ℕ → Type 0
IsToolText (asked.shim two) files text = AreShims files two text
IsToolText (asked.verify listing) files text = AreVerdicts files listing text
IsToolText (asked.invoke names values) files text = IsCall files names values text
IsToolText (asked.imports own) files text = AreFaults files own text
IsToolText _ files text = ⊥

-- WHAT A TOOL TELLS over the files of a bundle, where it doesn't refuse them
unfoldable pub IsToolOutput : Asked → Files → List ℕ → Type 0
IsToolOutput c files text = HoldsOwn (own_path c) files × CanAdaptAll files (adapted_files c) × IsToolText c files text

-- nothing of this is refused by the tool itself: a row for each tool
abbrev pub IsOwnValid : Asked → Files → Type 0
IsOwnValid (asked.shim two) files = CanMap files two
IsOwnValid (asked.verify listing) files =
    (ds : List DefinitionTree) × (sides : List Sides) × ListingReads files listing ds sides
IsOwnValid (asked.invoke names values) files = CallReads files names values
IsOwnValid (asked.imports own) files = (imports : List WasmImport) × ListReads files (path_of own.file) imports
IsOwnValid _ files = ⊥

-- the bundle holds what the tool works on, and its documents can be adapted
unfoldable pub IsValidForTool : Asked → Files → Type 0
IsValidForTool c files = HoldsOwn (own_path c) files × CanAdaptAll files (adapted_files c) × IsOwnValid c files
