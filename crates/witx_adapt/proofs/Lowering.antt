-- The parts of a function that can be lowered make its entry.
use Rattle.std.specs.Prelude.{◌≡◌, ℕ, List, Option, Some, None, map, option_map}
use Rattle.std.proofs.Common.{sym, ap, ◌∙◌, subst}
use Rattle.std.specs.declared.alloc.Global.{Global}
use Rattle.std.specs.declared.rc.Rc.{Rc}
use Rattle.witx_ast.specs.declared.function.InterfaceFunc.{InterfaceFunc}
use Rattle.witx_ast.specs.declared.module.Module.{Module}
use Rattle.witx_ast.specs.Functions.{func_tree}
use Rattle.witx_ast.specs.Definitions.{module_tree}
use Rattle.witx_machine.specs.declared.surface.Place.{Place}
use Rattle.witx_machine.specs.declared.surface.WasmType.{WasmType}
use Rattle.witx_machine.specs.Events.{Event}
use Rattle.witx_machine.specs.Functions.{function_of}
use Rattle.witx_machine.specs.Signature.{signature_params, signature_results}
use Rattle.witx_machine.specs.Lowerable.{unlowerable}
use Rattle.witx_machine.specs.Traces.{caller_events, callee_events}
use Rattle.witx_instructions.specs.Views.{called, event_of}
use Rattle.witx_instructions.specs.declared.trace.Trace.{Trace}
use Rattle.witx_adapt.specs.declared.error.DocumentError.{DocumentError}
use Rattle.witx_adapt.specs.declared.error.DocumentError.TheVariants as document_error
use Rattle.witx_adapt.specs.Entries.{Entry, Owned, entry_of, entry_for}
use Rattle.witx_adapt.specs.Adaptable.{Unlowered, UnlowerableAt, unlowered}
use Rattle.witx_adapt.proofs.Fitting.{called-same}

entry-same : (o : Owned) (p : Owned) (ps qs rs ss : List WasmType) (cs ds es gs : List Event) → o ≡ p → ps ≡ qs → rs ≡ ss → cs ≡ ds → es ≡ gs
    → ◌≡◌ {A = Entry} (record { owned = o; lowered = record { params = ps; results = rs; caller = cs; callee = es } }) (record { owned = p; lowered = record { params = qs; results = ss; caller = ds; callee = gs } })
entry-same o p ps qs rs ss cs ds es gs a b c d e = cc

owned-same : (m n : Module) (f g : InterfaceFunc) → m ≡ n → f ≡ g → ◌≡◌ {A = Owned} (record { owner = module_tree m; func = func_tree f }) (record { owner = module_tree n; func = func_tree g })
owned-same m n f g a b = cc

pub entry-made : (owner : Rc Module Global) (func : Rc InterfaceFunc Global) (params results : List WasmType) (caller callee : Trace) (m : Module) (f g : InterfaceFunc) (name : List ℕ)
    → owner.value ≡ m → func.value ≡ f → g ≡ f → name ≡ m.name → params ≡ signature_params (called g) → results ≡ signature_results (called g)
    → map event_of caller.events ≡ caller_events name (called g) → map event_of callee.events ≡ callee_events name (called g)
    → entry_of (record { «module» = owner; func = func; params = params; results = results; caller = caller; callee = callee })
    ≡ entry_for (record { owner = module_tree m; func = func_tree f })
entry-made owner func params results caller callee m f g name p q u a r s c d =
    let to : called g ≡ function_of (func_tree f) = ap called u ∙ sym (called-same f) in
    entry-same _ _ _ _ _ _ _ _ _ _ (owned-same owner.value m func.value f p q)
    (r ∙ ap signature_params to) (s ∙ ap signature_results to)
    (c ∙ ap (λ n. caller_events n (called g)) a ∙ ap (caller_events m.name) to)
    (d ∙ ap (λ n. callee_events n (called g)) a ∙ ap (callee_events m.name) to)

pub is-lowered : (m : Module) (f : InterfaceFunc) → unlowerable (called f) ≡ None → unlowered (record { owner = module_tree m; func = func_tree f }) ≡ None
is-lowered m f h = ap (option_map _) (ap unlowerable (called-same f) ∙ h)

pub is-refused : (m : Module) (f : InterfaceFunc) (p : Place) (e : DocumentError) → unlowerable (called f) ≡ Some p
    → UnlowerableAt (Some (record { owner = m.name; function = f.name; place = p })) e
    → UnlowerableAt (unlowered (record { owner = module_tree m; func = func_tree f })) e
is-refused m f p e h = subst (λ u. UnlowerableAt u e) (sym (ap (option_map _) (ap unlowerable (called-same f) ∙ h)))

pub no-memory : (u : Option Unlowered) (e : DocumentError) → e ≡ document_error.OutOfMemory → UnlowerableAt u e
no-memory u e h = subst (UnlowerableAt u) (sym h) tt

pub ruleset lowering_rules = (is-lowered, is-refused, no-memory)
