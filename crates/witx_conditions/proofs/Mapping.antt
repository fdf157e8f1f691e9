-- Mapped functions that are equal say the same, and those that say the same are equal.
use Rattle.std.specs.Prelude.{◌≡◌, List, [], ◌∷◌, Bool, true, ◌&&◌, map}
use Rattle.std.proofs.Common.{refl, ap, sym, ◌∙◌}
use Rattle.std.specs.Cmp.Lexicographic.{pointwise}
use Rattle.witx_base.specs.SameBytes.{same_bytes, both, bytes-to, false-true}
use Rattle.witx_ast.specs.Same.{same_tree}
use Rattle.witx_ast.specs.SameLaws.{same-to}
use Rattle.witx_ast.specs.Views.{tree_of}
use Rattle.witx_ast.specs.Functions.{func_tree, param_field}
use Rattle.witx_ast.specs.declared.function.InterfaceFuncParam.{InterfaceFuncParam}
use Rattle.witx_ast.specs.contracts.function.InterfaceFuncPartialEq.TheImpl as func_tests
use Rattle.witx_ast.specs.contracts.function.InterfaceFuncParamPartialEq.TheImpl as fields
use Rattle.witx_compat.specs.declared.conversion.TypePolyfill.{TypePolyfill}
use Rattle.witx_compat.specs.declared.conversion.ParamPolyfill.{ParamPolyfill}
use Rattle.witx_compat.specs.declared.conversion.ParamUnknown.{ParamUnknown}
use Rattle.witx_compat.specs.declared.functions.FuncPolyfill.{FuncPolyfill}
use Rattle.witx_compat.specs.contracts.conversion.TypePolyfillPartialEq.TheImpl as conversions
use Rattle.witx_compat.specs.contracts.conversion.ParamPolyfillPartialEq.TheImpl as params
use Rattle.witx_compat.specs.contracts.conversion.ParamUnknownPartialEq.TheImpl as unknowns
use Rattle.witx_compat.specs.contracts.functions.FuncPolyfillPartialEq.TheImpl as functions
use Rattle.witx_compat.specs.Conversions.{of_old, of_new, new_to_old, old_to_new}
use Rattle.witx_compat.specs.Polyfills.{MappedFunction}
use Rattle.witx_compat.specs.Views.{conversion_view, mapped_view, unknown_view, function_view}
use Rattle.witx_compat.proofs.PolyfillCopies.{functions-copied}

param-to : (a b : InterfaceFuncParam) → fields.ghosts.eq a b ≡ true → param_field a ≡ param_field b
param-to a b h =
    let p = both (same_bytes a.name b.name) (same_tree (tree_of a.tref) (tree_of b.tref) && same_bytes a.docs b.docs) h in
    let q = both (same_tree (tree_of a.tref) (tree_of b.tref)) (same_bytes a.docs b.docs) p.1 in
    (λ i. record { called = bytes-to a.name b.name p.0 i; tree = same-to (tree_of a.tref) (tree_of b.tref) q.0 i; comment = bytes-to a.docs b.docs q.1 i })

conversion-to : (a b : TypePolyfill) → conversions.ghosts.eq a b ≡ true → conversion_view a ≡ conversion_view b
conversion-to (TypePolyfill.NewToOld a b) (TypePolyfill.NewToOld c d) h =
    let p = both (same_tree (tree_of a) (tree_of c)) (same_tree (tree_of b) (tree_of d)) h in
    (λ i. new_to_old (same-to (tree_of a) (tree_of c) p.0 i) (same-to (tree_of b) (tree_of d) p.1 i))
conversion-to (TypePolyfill.OldToNew a b) (TypePolyfill.OldToNew c d) h =
    let p = both (same_tree (tree_of a) (tree_of c)) (same_tree (tree_of b) (tree_of d)) h in
    (λ i. old_to_new (same-to (tree_of a) (tree_of c) p.0 i) (same-to (tree_of b) (tree_of d) p.1 i))
conversion-to (TypePolyfill.NewToOld a b) (TypePolyfill.OldToNew c d) h = absurd (false-true h)
conversion-to (TypePolyfill.OldToNew a b) (TypePolyfill.NewToOld c d) h = absurd (false-true h)

mapped-to : (a b : ParamPolyfill) → params.ghosts.eq a b ≡ true → mapped_view a ≡ mapped_view b
mapped-to a b h =
    let p = both (fields.ghosts.eq a.new b.new) (fields.ghosts.eq a.old b.old && conversions.ghosts.eq a.type_polyfill b.type_polyfill) h in
    let q = both (fields.ghosts.eq a.old b.old) (conversions.ghosts.eq a.type_polyfill b.type_polyfill) p.1 in
    (λ i. record { new = param-to a.new b.new p.0 i; old = param-to a.old b.old q.0 i; conversion = conversion-to a.type_polyfill b.type_polyfill q.1 i })

unknown-to : (a b : ParamUnknown) → unknowns.ghosts.eq a b ≡ true → unknown_view a ≡ unknown_view b
unknown-to (ParamUnknown.Old a) (ParamUnknown.Old b) h = ap of_old (param-to a b h)
unknown-to (ParamUnknown.New a) (ParamUnknown.New b) h = ap of_new (param-to a b h)
unknown-to (ParamUnknown.Old a) (ParamUnknown.New b) h = absurd (false-true h)
unknown-to (ParamUnknown.New a) (ParamUnknown.Old b) h = absurd (false-true h)

list-to : {A V : Type 0} (view : A → V) (eq : A → A → Bool) → ((x y : A) → eq x y ≡ true → view x ≡ view y)
    → (xs ys : List A) → pointwise eq xs ys ≡ true → map view xs ≡ map view ys
list-to view eq k [] [] h = refl
list-to view eq k [] (y ∷ ys) h = absurd (false-true h)
list-to view eq k (x ∷ xs) [] h = absurd (false-true h)
list-to view eq k (x ∷ xs) (y ∷ ys) h =
    let p = both (eq x y) (pointwise eq xs ys) h in (λ i. k x y p.0 i ∷ list-to view eq k xs ys p.1 i)

-- the four lists of equal ones say the same
record SameLists (a b : FuncPolyfill) : Type 0 where
  mapped_params : map mapped_view a.mapped_params ≡ map mapped_view b.mapped_params
  unknown_params : map unknown_view a.unknown_params ≡ map unknown_view b.unknown_params
  mapped_results : map mapped_view a.mapped_results ≡ map mapped_view b.mapped_results
  unknown_results : map unknown_view a.unknown_results ≡ map unknown_view b.unknown_results

lists-to : (a b : FuncPolyfill) → functions.ghosts.eq a b ≡ true → SameLists a b
lists-to a b h =
    let params_same = pointwise params.ghosts.eq a.mapped_params b.mapped_params in
    let others_same = pointwise unknowns.ghosts.eq a.unknown_params b.unknown_params in
    let results_same = pointwise params.ghosts.eq a.mapped_results b.mapped_results in
    let rest_same = pointwise unknowns.ghosts.eq a.unknown_results b.unknown_results in
    let news = func_tests.ghosts.eq a.new.value b.new.value in
    let olds = func_tests.ghosts.eq a.old.value b.old.value in
    let n = both news (olds && (params_same && (others_same && (results_same && rest_same)))) h in
    let o = both olds (params_same && (others_same && (results_same && rest_same))) n.1 in
    let p = both params_same (others_same && (results_same && rest_same)) o.1 in
    let q = both others_same (results_same && rest_same) p.1 in
    let r = both results_same rest_same q.1 in
    record {
      mapped_params = list-to mapped_view params.ghosts.eq mapped-to a.mapped_params b.mapped_params p.0;
      unknown_params = list-to unknown_view unknowns.ghosts.eq unknown-to a.unknown_params b.unknown_params q.0;
      mapped_results = list-to mapped_view params.ghosts.eq mapped-to a.mapped_results b.mapped_results r.0;
      unknown_results = list-to unknown_view unknowns.ghosts.eq unknown-to a.unknown_results b.unknown_results r.1;
    }

whole-to : (a b : FuncPolyfill) → a.new.value ≡ b.new.value → a.old.value ≡ b.old.value → SameLists a b → function_view a ≡ function_view b
whole-to a b n o s = (λ i. record {
  new = func_tree (n i);
  old = func_tree (o i);
  params = s.mapped_params i;
  unknown_params = s.unknown_params i;
  results = s.mapped_results i;
  unknown_results = s.unknown_results i;
})

pub same-said : (a b : FuncPolyfill) (said : Bool) → said ≡ functions.ghosts.eq a b → a.new.value ≡ b.new.value → a.old.value ≡ b.old.value
    → said ≡ true → function_view a ≡ function_view b
same-said a b said e n o h = whole-to a b n o (lists-to a b (sym e ∙ h))

pub said-same : (a b : FuncPolyfill) (said : Bool) → said ≡ functions.ghosts.eq a b → function_view a ≡ function_view b → said ≡ true
said-same a b said e h = e ∙ functions-copied b a h

pub ruleset same_rules = (same-said, said-same)

pub view-said : (made mapped m : MappedFunction) (said : Bool) → made ≡ m → (said ≡ true → made ≡ mapped) → said ≡ true → mapped ≡ m
view-said made mapped m said e k h = sym (k h) ∙ e

pub said-view : (made mapped m : MappedFunction) (said : Bool) → made ≡ m → (made ≡ mapped → said ≡ true) → mapped ≡ m → said ≡ true
said-view made mapped m said e k h = k (e ∙ sym h)

pub ruleset view_rules = (view-said, said-view)
