-- A bundle that is valid for a tool isn't refused by it, and what a tool tells is over a bundle that is valid for it.
use Rattle.std.specs.Prelude.{◌≡◌, ◌⊎◌, ℕ, List, [], ◌∷◌, true, Option, Some, None, Ok}
use Rattle.std.proofs.Common.{refl, subst, inl, inr}
use Rattle.witx_base.specs.Paths.{Path, path_of}
use Rattle.witx_files.specs.Files.{Files, text_in}
use Rattle.witx_bundle.specs.Bundles.{IsRead}
use Rattle.witx_ast.specs.Definitions.{DefinitionTree}
use Rattle.witx_walk.specs.Readings.{OneReading}
use Rattle.witx_ast.specs.Closed.{IsClosed}
use Rattle.witx_ast.specs.Misfits.{first_misfit}
use Rattle.witx_ast.specs.Tags.{function_fits}
use Rattle.witx_adapt.proofs.Fitting.{functions-fit}
use Rattle.witx_adapt.specs.Entries.{Entry, all_functions}
use Rattle.witx_invoke.specs.Laws.{AtMostOneLine}
use Rattle.witx_traces.specs.Traces.{IsUnfit, Sides, TracesLeaveNoneUnfit}
use Rattle.witx_imports.specs.Reads as list
use Rattle.witx_imports.specs.declared.import.WasmImport.{WasmImport}
use Rattle.witx_commands.specs.Adapting.{Parses}
use Rattle.witx_commands.specs.Causes.{CanAdapt}
use Rattle.witx_commands.specs.Laws.{ValidIsNotRefused}
use Rattle.witx_commands.specs.Reports.{AdaptingFails, CommandRefuses, MappingFails}
use Rattle.witx_commands.specs.Causes.{CanMap}
use Rattle.witx_commands.specs.Words as asked
use Rattle.witx_commands.specs.Words.{Asked, FunctionNames, OwnFile, TwoFiles, paths_of}
use Rattle.witx_commands.proofs.Exclusion.{parses-same, same-files}
use Rattle.witx_tools.specs.Calls.{CallFails, CanCall, IsCallText, NamedFails, entries_of, first_named, has_function_names}
use Rattle.witx_tools.specs.ImportTexts.{IsBadList}
use Rattle.witx_tools.specs.ToolCauses.{CallReads, CallRefuses, CanAdaptAll, HoldsOwn, IsOwnValid, IsToolOutput, IsToolText, IsValidForTool, LacksOwn, ListFails, ListReads, ListingFails, ListingReads, OneIsUnadapted, OwnRefuses, ToolRefuses, adapted_files, own_path}
use Rattle.witx_tools.specs.ToolLaws.{ValidIsNotRefusedByTools}
use Rattle.witx_tools.specs.VerdictTexts.{IsUnfitListing, listed_for}
use Rattle.witx_tools.proofs.Closing.{parsed-closed}
use Rattle.witx_tools.proofs.Handing.{call-excluded, found-fits}

-- a text that lists imports has no fault
abbrev pub ListsHaveNoFault : Type 0
ListsHaveNoFault = (text : List ℕ) (d : List WasmImport) (place : list.LineColumn) → list.Lists text d → list.IsBadAt text place → ⊥

module _ (valid : ValidIsNotRefused) (no_fault : ListsHaveNoFault) (no_unfit : TracesLeaveNoneUnfit) (one_reading : OneReading) (one_line : AtMostOneLine)
    (bytes : List ℕ) (files others : Files)
    (here : IsRead bytes (Ok files)) (there : IsRead bytes (Ok others)) where
  same-held : (path : Path) → text_in files path ≡ text_in others path
  same-held path = same-files bytes files others here there path

  own-excluded : (own : Option Path) (report : List ℕ) → HoldsOwn own others → LacksOwn own files report → ⊥
  own-excluded None report v h = h
  own-excluded (Some path) report (text, k) (lacks, r) = let same : text_in files path ≡ text_in others path = same-held path in cc

  adapt-excluded : (words : List (List ℕ)) (report : List ℕ) → CanAdapt others (paths_of words) → AdaptingFails files (paths_of words) report → ⊥
  unfolding CommandRefuses
  adapt-excluded words report v h = valid bytes files others here there (asked.adapt words) report v h

  unadapted-excluded : (all : List (List (List ℕ))) (report : List ℕ) → CanAdaptAll others all → OneIsUnadapted files all report → ⊥
  unadapted-excluded [] report v h = h
  unadapted-excluded (words ∷ more) report v (inl h) = adapt-excluded words report v.0 h
  unadapted-excluded (words ∷ more) report v (inr h) = unadapted-excluded more report v.1 h.1

  mapping-excluded : (two : TwoFiles) (report : List ℕ) → CanMap others two → MappingFails files two report → ⊥
  unfolding CommandRefuses
  mapping-excluded two report v h = valid bytes files others here there (asked.polyfill two) report v (inr h)

  list-excluded : (path : Path) (imports : List WasmImport) (report : List ℕ) → ListReads others path imports → ListFails files path report → ⊥
  unfolding IsBadList
  list-excluded path imports report (text, k, reads) (other, h, (place, fault, r)) =
      let same : text_in files path ≡ text_in others path = same-held path in
      let equal : other ≡ text = cc in
      no_fault text imports place reads (subst (λ t. list.IsBadAt t place) equal fault)

  -- the files of both readings mean the same document
  same-document : (handed : List Path) (ds es : List DefinitionTree) → Parses others handed (Ok ds) → Parses files handed (Ok es) → es ≡ ds
  same-document handed ds es p q = parses-same one_reading.0 one_reading.1.0 files others same-held handed ds es p q

  one-document : (handed : List Path) (ds es : List DefinitionTree) → Parses others handed (Ok ds) → Parses others handed (Ok es) → es ≡ ds
  one-document handed ds es p q = parses-same one_reading.0 one_reading.1.0 others others (λ path. refl) handed ds es p q

  listing-excluded : (own : OwnFile) (ds : List DefinitionTree) (sides : List Sides) (report : List ℕ) → ListingReads others own ds sides
      → ListingFails files own report → ⊥
  unfolding IsUnfitListing
  listing-excluded own ds sides report (listing, (k, p), gives) (es, text, (h, q), (number, unfit, r)) =
      let same : text_in files (path_of own.file) ≡ text_in others (path_of own.file) = same-held (path_of own.file) in
      let equal : text ≡ listing = cc in
      let document : es ≡ ds = same-document (paths_of own.paths) ds es p q in
      no_unfit (listed_for ds) listing number sides gives
      (subst (λ t. IsUnfit (listed_for ds) t number) equal (subst (λ xs. IsUnfit (listed_for xs) text number) document unfit))

  named-excluded : (n : FunctionNames) (values : List ℕ) (e : Entry) (o : Option Entry) (report : List ℕ) → function_fits e.owned.func ≡ true → CanCall e values → o ≡ Some e
      → NamedFails n o values report → ⊥
  unfolding NamedFails
  named-excluded n values e None report fit can same h = cc
  named-excluded n values e (Some x) report fit can same h =
      let here : x ≡ e = cc in call-excluded one_line e fit values report can (subst (λ e. CallFails e values report) here h)

  refused-excluded : (n : FunctionNames) (own : OwnFile) (report : List ℕ) → CanAdaptAll others (own.paths ∷ []) → CallReads others n own → CallRefuses files n own report → ⊥
  refused-excluded n own report ((bs, r, able), rest) (ds, values, (k, p), e, named, can) (es, text, (h, q), fails) =
      let same : text_in files (path_of own.file) ≡ text_in others (path_of own.file) = same-held (path_of own.file) in
      let equal : text ≡ values = cc in
      let document : es ≡ ds = same-document (paths_of own.paths) ds es p q in
      let adapted : bs ≡ ds = one-document (paths_of own.paths) ds bs p r in
      let closed : IsClosed ds = parsed-closed one_reading others (paths_of own.paths) ds p in
      let fit = found-fits (has_function_names n) (all_functions ds) e (functions-fit ds closed (subst (λ xs. first_misfit xs ≡ None) adapted able.fits)) named in
      let fails_there = subst (λ xs. NamedFails n (first_named n (entries_of xs)) text report) document fails in
      named-excluded n values e (first_named n (entries_of ds)) report fit can named
      (subst (λ t. NamedFails n (first_named n (entries_of ds)) t report) equal fails_there)

  tool-excluded : (c : Asked) (report : List ℕ) → CanAdaptAll others (adapted_files c) → IsOwnValid c others → OwnRefuses c files report → ⊥
  tool-excluded (asked.shim two) report all v h = mapping-excluded two report v h
  tool-excluded (asked.verify own) report all v h = listing-excluded own v.0 v.1 report v.2 h
  tool-excluded (asked.invoke n own) report all v h = refused-excluded n own report all v h
  tool-excluded (asked.imports own) report all v h = list-excluded (path_of own.file) v.0 report v.1 h
  tool-excluded _ report all v h = absurd v

  by-part : (c : Asked) (report : List ℕ) → HoldsOwn (own_path c) others → CanAdaptAll others (adapted_files c) → IsOwnValid c others
      → LacksOwn (own_path c) files report
      ⊎ (HoldsOwn (own_path c) files × (OneIsUnadapted files (adapted_files c) report ⊎ (CanAdaptAll files (adapted_files c) × OwnRefuses c files report)))
      → ⊥
  by-part c report own all valid_for (inl h) = own-excluded (own_path c) report own h
  by-part c report own all valid_for (inr (k, inl h)) = unadapted-excluded (adapted_files c) report all h
  by-part c report own all valid_for (inr (k, inr h)) = tool-excluded c report all valid_for h.1

  valid-excluded : (c : Asked) (report : List ℕ) → IsValidForTool c others → ToolRefuses c files report → ⊥
  unfolding IsValidForTool ToolRefuses
  valid-excluded c report v h = by-part c report v.0 v.1 v.2 h

pub valid-is-not-refused : ValidIsNotRefused → ListsHaveNoFault → TracesLeaveNoneUnfit → OneReading → AtMostOneLine
    → ValidIsNotRefusedByTools
valid-is-not-refused valid no_fault no_unfit one_reading one_line = λ bytes files others here there c report v h.
    valid-excluded valid no_fault no_unfit one_reading one_line bytes files others here there c report v h

call-valid : (e : Entry) (values text : List ℕ) → IsCallText e values text → CanCall e values
call-valid e values text c = record { handed = c.handed; given = c.given; kept = c.answered.kept; room = c.answered.room }

text-valid : (c : Asked) (files : Files) (text : List ℕ) → IsToolText c files text → IsOwnValid c files
text-valid (asked.shim two) files text (new, old, both, modules, e, k) = (new, old, both, modules, e)
text-valid (asked.verify own) files text (ds, sides, reads, k) = (ds, sides, reads)
text-valid (asked.invoke n own) files text (ds, values, text_in, told) = (ds, values, text_in, told.entry, told.named, call-valid told.entry values text told.called)
text-valid (asked.imports own) files text h = (h.0, h.1)
text-valid _ files text h = absurd h

-- what a tool tells
pub output-valid : (c : Asked) (files : Files) (text : List ℕ) → IsToolOutput c files text → IsValidForTool c files
unfolding IsToolOutput IsValidForTool
output-valid c files text h = (h.0, h.1, text-valid c files text h.2)
