-- What `verify` tells: for each function of a document what the verdict says of the traces that a listing gives it; and what is
-- told of a text that is no such listing.
use Rattle.std.specs.Prelude.{◌≡◌, ℕ, List, ◌++◌, map, codes}
use Rattle.std.specs.Fmt.{decimal}
use Rattle.std.specs.List.{flat_map, zip}
use Rattle.witx_ast.specs.Definitions.{DefinitionTree}
use Rattle.witx_machine.specs.Functions.{function_of}
use Rattle.witx_layout.specs.Layouts.{all_layouts}
use Rattle.witx_adapt.specs.Entries.{Entry, Owned, all_functions, entry_for, entry_of}
use Rattle.witx_adapt.specs.Names.{in_quotes}
use Rattle.witx_adapt.specs.declared.adapted.AdaptedFunc.{AdaptedFunc}
use Rattle.witx_traces.specs.Traces as traces
use Rattle.witx_traces.specs.Traces.{IsUnfit, Listed, Sides}
use Rattle.witx_symbols.specs.Verdicts.{verdict}
use Rattle.witx_symbols.specs.declared.surface.Doubt.{Doubt}
use Rattle.witx_symbols.specs.declared.surface.Verdict.{Verdict}

-- a doubt; of an event, its number
abbrev pub doubt_text : Doubt → List ℕ
doubt_text (Doubt.Function place) = codes "function"
doubt_text (Doubt.Caller event) = codes "caller " ++ decimal event
doubt_text (Doubt.Callee event) = codes "callee " ++ decimal event
doubt_text Doubt.Passes = codes "passes"
doubt_text Doubt.Returns = codes "returns"
doubt_text Doubt.Notes = codes "notes"
doubt_text Doubt.Reply = codes "reply"

abbrev pub found_text : Verdict → List ℕ
found_text Verdict.Yes = codes " yes\n"
found_text (Verdict.No doubt) = codes " no " ++ doubt_text doubt ++ codes "\n"

abbrev pub verdict_line : (name : List ℕ) → Verdict → List ℕ
verdict_line name found = codes "func " ++ in_quotes name ++ found_text found

-- the line of a function of a module, with a caller's trace and a callee's
abbrev pub judged_line : Owned → Sides → List ℕ
judged_line f s = verdict_line f.func.name (verdict f.owner.name (function_of f.func) s.caller s.callee)

-- THE TEXT of functions with their traces, one by one
unfoldable pub verdicts_text : List Owned → List Sides → List ℕ
verdicts_text functions sides = flat_map (λ p. judged_line p.0 p.1) (zip functions sides)

-- the function of an adapted document's entry
abbrev pub owned_of : AdaptedFunc → Owned
owned_of f = (entry_of f).owned

-- what the listing of a document shows, by the document alone
abbrev pub offered_by : Entry → traces.Offered
offered_by e = record { function = function_of e.owned.func; lowered = e.lowered }

abbrev pub listed_for : List DefinitionTree → Listed
listed_for ds = record {
  definitions = ds;
  functions = map (λ f. offered_by (entry_for f)) (all_functions ds);
  layouts = all_layouts ds;
}

abbrev pub unfit_report : ℕ → List ℕ
unfit_report number = codes "listing: unexpected line " ++ decimal number

-- a line of the text can't stand there, this is the report of the first such
unfoldable pub IsUnfitListing : Listed → List ℕ → List ℕ → Type 0
IsUnfitListing shown text report = (number : ℕ) × IsUnfit shown text number × (report ≡ unfit_report number)
