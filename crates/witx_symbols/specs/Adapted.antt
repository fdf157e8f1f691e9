-- What a yes tells, and which traces get one: a function's own, and those of each entry of an adapted document.
use Rattle.std.specs.Prelude.{◌≡◌, ℕ, List, map, All, IsTrue}
use Rattle.witx_ast.specs.Closed.{IsClosed}
use Rattle.witx_ast.specs.Definitions.{DefinitionTree}
use Rattle.witx_ast.specs.Functions.{FunctionTree}
use Rattle.witx_ast.specs.Tags.{function_fits}
use Rattle.witx_machine.specs.Events.{Event}
use Rattle.witx_machine.specs.Faithful.{Faithful}
use Rattle.witx_machine.specs.Functions.{Function, function_of}
use Rattle.witx_machine.specs.Lowerable.{lowerable}
use Rattle.witx_machine.specs.Traces.{caller_events, callee_events}
use Rattle.witx_instructions.specs.Views.{called, event_of}
use Rattle.witx_adapt.specs.Adaptable.{IsAdaptable}
use Rattle.witx_adapt.specs.Entries.{all_functions, entry_for, entry_of}
use Rattle.witx_adapt.specs.declared.adapted.AdaptedFunc.{AdaptedFunc}
use Rattle.witx_symbols.specs.declared.surface.Verdict.{Verdict}
use Rattle.witx_symbols.specs.Verdicts.{verdict}

-- two traces that get a yes are faithful to the function
abbrev pub YesIsFaithful : Type 0
YesIsFaithful =
    (m : List ℕ) (f : FunctionTree) (caller callee : List Event) →
    verdict m (function_of f) caller callee ≡ Verdict.Yes → Faithful m (function_of f) caller callee

-- a function's own two traces get a yes, where it can be lowered and its types fit their tags
abbrev pub OwnGetYes : Type 0
OwnGetYes =
    (m : List ℕ) (f : FunctionTree) → IsTrue (lowerable (function_of f)) → IsTrue (function_fits f) →
    verdict m (function_of f) (caller_events m (function_of f)) (callee_events m (function_of f)) ≡ Verdict.Yes

-- so it is of each entry of what a closed document is adapted to
abbrev pub OfEachAdapted : (AdaptedFunc → Type 0) → Type 0
OfEachAdapted P =
    (ds : List DefinitionTree) (fs : List AdaptedFunc) →
    IsClosed ds → IsAdaptable ds → map entry_of fs ≡ map entry_for (all_functions ds) → All P fs

-- the two traces of an entry get a yes
abbrev pub GetsYes : AdaptedFunc → Type 0
GetsYes f = verdict f.module.value.name (called f.func.value) (map event_of f.caller.events) (map event_of f.callee.events) ≡ Verdict.Yes

abbrev pub AdaptedGetYes : Type 0
AdaptedGetYes = OfEachAdapted GetsYes

-- where an entry has this module, this function and these traces, what is found of them is yes
abbrev pub YesOf : Verdict → List ℕ → Function → (caller callee : List Event) → AdaptedFunc → Type 0
YesOf found m f caller callee entry =
    entry.module.value.name ≡ m → called entry.func.value ≡ f →
    map event_of entry.caller.events ≡ caller → map event_of entry.callee.events ≡ callee → found ≡ Verdict.Yes

-- what is found of a module's function and two traces is yes, where they are those of an entry
abbrev pub AdaptedGetsYes : Verdict → List ℕ → Function → (caller callee : List Event) → Type 0
AdaptedGetsYes found m f caller callee = OfEachAdapted (YesOf found m f caller callee)
