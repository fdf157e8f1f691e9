-- In a closed document that can be adapted each function can be lowered and fits its tags, so its own traces get a yes.
use Rattle.std.proofs.Common.{◌≡◌, ap, subst, arith, List, [], ◌∷◌, map, IsTrue}
use Rattle.std.specs.Prelude.{None, All, is_none}
use Rattle.std.proofs.lemmas.List.Elements.{All-cons}
use Rattle.witx_ast.specs.Tags.{function_fits}
use Rattle.witx_machine.specs.Functions.{function_of}
use Rattle.witx_instructions.specs.Views.{event_of}
use Rattle.witx_adapt.specs.Adaptable.{unlowered, first_unlowered}
use Rattle.witx_adapt.specs.Entries.{Entry, Owned, all_functions, entry_for, entry_of}
use Rattle.witx_adapt.specs.declared.adapted.AdaptedFunc.{AdaptedFunc}
use Rattle.witx_adapt.proofs.Fitting.{FunctionsFit, functions-fit, none-here, none-later, called-same, lowered-none}
use Rattle.witx_symbols.specs.declared.surface.Verdict.{Verdict}
use Rattle.witx_symbols.specs.Verdicts.{verdict}
use Rattle.witx_symbols.specs.Adapted.{GetsYes, AdaptedGetYes}
use Rattle.witx_symbols.proofs.Stated.{own_get_yes}

YesEntry : Entry → Type 0
YesEntry e = verdict e.owned.owner.name (function_of e.owned.func) e.lowered.caller e.lowered.callee ≡ Verdict.Yes

entry-yes : (p : Owned) → IsTrue (function_fits p.func) → unlowered p ≡ None → YesEntry (entry_for p)
unfolding YesEntry
entry-yes p h u = own_get_yes p.owner.name p.func (ap is_none (lowered-none p u)) h

as-entry : (f : AdaptedFunc) → YesEntry (entry_of f) → GetsYes f
unfolding YesEntry
as-entry f h = subst (λ g. verdict f.module.value.name g (map event_of f.caller.events) (map event_of f.callee.events) ≡ Verdict.Yes) (called-same f.func.value) h

none-yes : All GetsYes []
none-yes k d h = absurd (omega arith)

entries-yes : (fs : List AdaptedFunc) (ps : List Owned) → map entry_of fs ≡ map entry_for ps → FunctionsFit ps → first_unlowered ps ≡ None → All GetsYes fs
entries-yes [] ps e h u = none-yes
entries-yes (f ∷ fs) [] e h u = cc
entries-yes (f ∷ fs) (p ∷ ps) e h u =
    let same : entry_for p ≡ entry_of f = cc in
    let rest : map entry_of fs ≡ map entry_for ps = cc in
    All-cons GetsYes f fs (as-entry f (subst YesEntry same (entry-yes p h.0 (none-here (unlowered p) (first_unlowered ps) u))))
    (entries-yes fs ps rest h.1 (none-later (unlowered p) (first_unlowered ps) u))

pub adapted_get_yes : AdaptedGetYes
adapted_get_yes ds fs c a e = entries-yes fs (all_functions ds) e (functions-fit ds c a.fits) a.lowerable
