-- What says the same, as a copy does, is equal.
use Rattle.std.specs.Prelude.{◌≡◌, List, [], ◌∷◌, Bool, true, map}
use Rattle.std.proofs.Common.{refl, ap, ◌∙◌}
use Rattle.std.specs.Cmp.Lexicographic.{pointwise}
use Rattle.std.specs.List.{AllZip}
use Rattle.witx_ast.specs.Tree.{Field}
use Rattle.witx_ast.proofs.HeldCopies.{both-hold}
use Rattle.witx_ast.proofs.PartCopies.{param-copied, function-copied}
use Rattle.witx_ast.specs.declared.module.Module.{Module}
use Rattle.witx_ast.specs.contracts.module.ModulePartialEq.TheImpl as module_tests
use Rattle.witx_ast.specs.contracts.module.ModuleEq.TheImpl.Laws as module_laws
use Rattle.witx_compat.specs.declared.conversion.TypePolyfill.{TypePolyfill}
use Rattle.witx_compat.specs.declared.conversion.ParamPolyfill.{ParamPolyfill}
use Rattle.witx_compat.specs.declared.conversion.ParamUnknown.{ParamUnknown}
use Rattle.witx_compat.specs.declared.functions.FuncPolyfill.{FuncPolyfill}
use Rattle.witx_compat.specs.declared.modules.ModulePolyfill.{ModulePolyfill}
use Rattle.witx_compat.specs.contracts.conversion.TypePolyfillPartialEq.TheImpl as conversions
use Rattle.witx_compat.specs.contracts.conversion.ParamPolyfillPartialEq.TheImpl as params
use Rattle.witx_compat.specs.contracts.conversion.ParamUnknownPartialEq.TheImpl as unknowns
use Rattle.witx_compat.specs.contracts.functions.FuncPolyfillPartialEq.TheImpl as functions
use Rattle.witx_compat.specs.contracts.modules.ModulePolyfillPartialEq.TheImpl as modules
use Rattle.witx_compat.specs.Conversions.{Unknown, of_old, of_new}
use Rattle.witx_compat.specs.Once.{same_conversion}
use Rattle.witx_compat.specs.Views.{conversion_view, mapped_view, unknown_view, function_view, IsModuleCopy}
use Rattle.witx_compat.proofs.OnceLaws.{tested, conversion-self}

pub conversion-copied : (p c : TypePolyfill) → conversion_view c ≡ conversion_view p → conversions.ghosts.eq c p ≡ true
conversion-copied p c h = tested c p ∙ ap (λ x. same_conversion x (conversion_view p)) h ∙ conversion-self (conversion_view p)

pub mapped-copied : (p c : ParamPolyfill) → mapped_view c ≡ mapped_view p → params.ghosts.eq c p ≡ true
mapped-copied p c h =
    both-hold _ _ (param-copied p.new c.new (ap (λ m. m.new) h))
    (both-hold _ _ (param-copied p.old c.old (ap (λ m. m.old) h)) (conversion-copied p.type_polyfill c.type_polyfill (ap (λ m. m.conversion) h)))

abbrev field_in : Unknown → Field
field_in (of_old f) = f
field_in (of_new f) = f

pub unknown-copied : (p c : ParamUnknown) → unknown_view c ≡ unknown_view p → unknowns.ghosts.eq c p ≡ true
unknown-copied (ParamUnknown.Old p) (ParamUnknown.Old c) h = param-copied p c (ap field_in h)
unknown-copied (ParamUnknown.New p) (ParamUnknown.New c) h = param-copied p c (ap field_in h)
unknown-copied (ParamUnknown.Old p) (ParamUnknown.New c) h = absurd (new-old h)
  where
    new-old : {f g : Field} → of_new f ≡ of_old g → ⊥
    new-old h = cc
unknown-copied (ParamUnknown.New p) (ParamUnknown.Old c) h = absurd (old-new h)
  where
    old-new : {f g : Field} → of_old f ≡ of_new g → ⊥
    old-new h = cc

heads : {V : Type 0} (x y : V) (xs ys : List V) → x ∷ xs ≡ y ∷ ys → (x ≡ y) × (xs ≡ ys)
heads x y xs ys h = (cc, cc)

-- lists that say the same
list-copied : {A V : Type 0} (view : A → V) (eq : A → A → Bool) → ((x y : A) → view y ≡ view x → eq y x ≡ true)
    → (xs ys : List A) → map view ys ≡ map view xs → pointwise eq ys xs ≡ true
list-copied view eq k [] [] h = refl
list-copied view eq k [] (y ∷ ys) h = absurd (cc)
list-copied view eq k (x ∷ xs) [] h = absurd (cc)
list-copied view eq k (x ∷ xs) (y ∷ ys) h =
    let p = heads (view y) (view x) (map view ys) (map view xs) h in
    both-hold (eq y x) (pointwise eq ys xs) (k x y p.0) (list-copied view eq k xs ys p.1)

pub functions-copied : (p c : FuncPolyfill) → function_view c ≡ function_view p → functions.ghosts.eq c p ≡ true
functions-copied p c h =
    both-hold _ _ (function-copied p.new.value c.new.value (ap (λ f. f.new) h))
    (both-hold _ _ (function-copied p.old.value c.old.value (ap (λ f. f.old) h))
    (both-hold _ _ (list-copied mapped_view params.ghosts.eq mapped-copied p.mapped_params c.mapped_params (ap (λ f. f.params) h))
    (both-hold _ _ (list-copied unknown_view unknowns.ghosts.eq unknown-copied p.unknown_params c.unknown_params (ap (λ f. f.unknown_params) h))
    (both-hold _ _ (list-copied mapped_view params.ghosts.eq mapped-copied p.mapped_results c.mapped_results (ap (λ f. f.results) h))
    (list-copied unknown_view unknowns.ghosts.eq unknown-copied p.unknown_results c.unknown_results (ap (λ f. f.unknown_results) h))))))

same-module : (m c : Module) → c ≡ m → module_tests.ghosts.eq c m ≡ true
same-module m c e = rw e (module_laws.laws-law.refl m)

pub module-copied : (p c : ModulePolyfill) → IsModuleCopy p c → modules.ghosts.eq c p ≡ true
module-copied p c h =
    both-hold _ _ (same-module p.new.value c.new.value h.0)
    (both-hold _ _ (same-module p.old.value c.old.value h.1.0) (list-copied function_view functions.ghosts.eq functions-copied p.funcs c.funcs h.1.1))

pub modules-copied : (xs ys : List ModulePolyfill) → AllZip IsModuleCopy xs ys → pointwise modules.ghosts.eq ys xs ≡ true
modules-copied [] [] h = refl
modules-copied [] (y ∷ ys) h = absurd h
modules-copied (x ∷ xs) [] h = absurd h
modules-copied (x ∷ xs) (y ∷ ys) h = both-hold (modules.ghosts.eq y x) (pointwise modules.ghosts.eq ys xs) (module-copied x y h.0) (modules-copied xs ys h.1)
