-- Traces whose events name only types that fit their tags allocate only what is writable.
use Rattle.std.specs.Prelude.{◌≡◌, ℕ, ◌+◌, ◌<◌, ◌≤◌, List, [], ◌∷◌, Bool, true, false, Option, Some, None, map, length, drop}
use Rattle.std.proofs.Common.{refl, sym, ◌∙◌, get_or}
use Rattle.witx_ast.specs.Functions.{func_tree, param_field}
use Rattle.witx_ast.specs.Plain.{plain}
use Rattle.witx_base.specs.SameBytes.{both}
use Rattle.witx_ast.specs.Tags.{fits, function_fits, types_fit}
use Rattle.witx_ast.specs.Tree.{Tree}
use Rattle.witx_ast.specs.Views.{tree_of}
use Rattle.witx_ast.specs.declared.function.InterfaceFunc.{InterfaceFunc}
use Rattle.witx_ast.specs.declared.function.InterfaceFuncParam.{InterfaceFuncParam}
use Rattle.witx_ast.proofs.TagLaws.{fits-decides}
use Rattle.witx_machine.specs.Events.{Event, emit, space, push, finish}
use Rattle.witx_machine.specs.Rows.{Row, row, load, result_lower}
use Rattle.witx_machine.specs.Run.{itself}
use Rattle.witx_instructions.specs.Views.{called, event_of, param_types}
use Rattle.witx_instructions.specs.declared.event.Event as kept
use Rattle.witx_bytes.proofs.TakenFit.{AllGood, AllOf, Fit, Good, GoodRow, IfGiven, taken_fits}
use Rattle.witx_conditions.specs.FittingEvents.{TakeWritable, event_fits, events_fit, payload_tree_fits, row_fits}
use Rattle.witx_conditions.proofs.Lists.{refused, passed, ended}

-- ---- events, one after the other

abbrev one_fits : kept.Event → Bool
one_fits e = event_fits (event_of e)

abbrev all_fit : List kept.Event → Bool
all_fit es = events_fit (map event_of es)

abbrev pub EventsFrom : List kept.Event → ℕ → Type 0
EventsFrom es i = all_fit (drop i es) ≡ all_fit es

pub event-refused : (es : List kept.Event) (i : ℕ) (e : kept.Event) → i < length es → e ≡ get_or es i e → EventsFrom es i
    → event_fits (event_of e) ≡ false → events_fit (map event_of es) ≡ false
event-refused es i e l p h k = refused one_fits all_fit (λ x xs. refl) refl es i e l p h k

pub event-passed : (es : List kept.Event) (i : ℕ) (e : kept.Event) → i < length es → e ≡ get_or es i e → EventsFrom es i
    → event_fits (event_of e) ≡ true → EventsFrom es (i + 1)
event-passed es i e l p h k = passed one_fits all_fit (λ x xs. refl) refl es i e l p h k

pub events-ended : (es : List kept.Event) (i : ℕ) → length es ≤ i → EventsFrom es i → events_fit (map event_of es) ≡ true
events-ended es i l h = ended one_fits all_fit (λ x xs. refl) refl es i l h

pub ruleset event_rules = (event-refused, event-passed, events-ended)

-- ---- what fits is good for a run

tree-fits : (t : Tree) → fits (plain t) ≡ true → Fit t
tree-fits t h = (fits-decides (plain t)).0 h

payload-given : (o : Option Tree) → payload_tree_fits o ≡ true → IfGiven o
payload-given None h = tt
payload-given (Some t) h = tree-fits t h

row-good : (r : Row) → row_fits r ≡ true → GoodRow r
row-good (load t) h = tree-fits t h
row-good (result_lower ok err) h = let p = both (payload_tree_fits ok) (payload_tree_fits err) h in (payload-given ok p.0, payload-given err p.1)
row-good _ h = tt

event-good : (e : Event) → event_fits e ≡ true → Good e
event-good (emit x) h = row-good (row x) h
event-good (space k t) h = tree-fits t h
event-good push h = tt
event-good (finish v) h = tt

events-good : (es : List Event) → events_fit es ≡ true → AllGood es
events-good [] h = tt
events-good (e ∷ es) h = let p = both (event_fits e) (events_fit es) h in (event-good e p.0, events-good es p.1)

types-good : (ps : List InterfaceFuncParam) → types_fit (map param_field ps) ≡ true → AllOf (param_types ps)
types-good [] h = tt
types-good (p ∷ ps) h = let q = both (fits (plain (tree_of p.tref))) (types_fit (map param_field ps)) h in (tree-fits (tree_of p.tref) q.0, types-good ps q.1)

allocating : (f : InterfaceFunc) (caller callee : List Event) → function_fits (func_tree f) ≡ true → events_fit caller ≡ true → events_fit callee ≡ true
    → TakeWritable (called f) caller callee
allocating f caller callee h k l = record {
  taken = λ m arguments reply memory addresses o ran.
      let p = both (types_fit (map param_field f.params)) (types_fit (map param_field f.results)) h in
      taken_fits m (called f) (itself m (called f)) caller callee arguments reply (record { cells = memory; fresh = addresses; taken = [] })
      (types-good f.params p.0) (types-good f.results p.1) (events-good caller k) (events-good callee l) tt o ran;
}

pub allocating-all : (f : InterfaceFunc) (caller callee : List Event) (a b c : Bool)
    → a ≡ function_fits (func_tree f) → b ≡ events_fit caller → c ≡ events_fit callee → a ≡ true → b ≡ true → c ≡ true
    → TakeWritable (called f) caller callee
allocating-all f caller callee a b c x y z h k l = allocating f caller callee (sym x ∙ h) (sym y ∙ k) (sym z ∙ l)

pub ruleset allocating_rules = (allocating-all)
