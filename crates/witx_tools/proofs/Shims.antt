-- A loop over lists that are viewed puts each one's lines; the functions of mapped modules are mapped; and what is told where
-- there is no shim.
use Rattle.std.proofs.Common.{◌≡◌, ℕ, zero, suc, arith, OnOk, ◌+◌, ◌<◌, ◌≤◌, List, [], ◌∷◌, ◌++◌, All, length, get_or, drop, map, refl, sym, ap, ◌∙◌, subst, append_assoc, append-nil, Option, Some, None, Result, Ok, Err}
use Rattle.std.proofs.lemmas.List.{drop_more, drop_all}
use Rattle.std.specs.List.{flat_map}
use Rattle.witx_ast.specs.Functions.{FunctionTree}
use Rattle.witx_ast.specs.Items.{func_called, funcs_of}
use Rattle.witx_ast.specs.Definitions.{DefinitionTree, ModuleTree, module_called}
use Rattle.witx_compat.specs.Polyfills.{MappedFunction, MappedModule, all_or_refusal, as_mapped_module, function_answer, function_mapped, function_or_none, module_answer, new_or_none, mapped_then, pair_answer, polyfill_answer}
use Rattle.witx_compat.specs.Polyfills as polyfill
use Rattle.witx_compat.specs.Views.{function_view, module_view}
use Rattle.witx_compat.specs.declared.functions.FuncPolyfill.{FuncPolyfill}
use Rattle.witx_compat.specs.declared.modules.ModulePolyfill.{ModulePolyfill}
use Rattle.witx_shim.specs.Refusals.{ShimRefusal}
use Rattle.witx_tools.specs.ShimTexts.{passing_line, refusal_line}
use Rattle.witx_tools.specs.MappedBy.{AreMapped, IsMapped}

pub viewed-more : {A B : Type 0} (f : B → List ℕ) (v : A → B) (xs : List A) (n : ℕ) (x : A) (done now total : List ℕ) → (n < length xs) × (x ≡ get_or xs n x)
    → now ≡ done ++ f (v x) → done ++ flat_map f (map v (drop n xs)) ≡ total → now ++ flat_map f (map v (drop (n + 1) xs)) ≡ total
viewed-more f v xs n x done now total h p e =
    ap (λ s. s ++ flat_map f (map v (drop (n + 1) xs))) p ∙ append_assoc done (f (v x)) (flat_map f (map v (drop (n + 1) xs)))
    ∙ ap (λ ys. done ++ flat_map f (map v ys)) (ap (λ y. y ∷ drop (n + 1) xs) h.1 ∙ sym (drop_more xs n x h.0)) ∙ e

pub viewed-end : {A B : Type 0} (f : B → List ℕ) (v : A → B) (xs : List A) (n : ℕ) (done total : List ℕ) → length xs ≤ n → done ++ flat_map f (map v (drop n xs)) ≡ total → done ≡ total
viewed-end f v xs n done total l e = sym (append-nil done) ∙ ap (λ ys. done ++ flat_map f (map v ys)) (sym (drop_all n xs l)) ∙ e

pub ruleset viewed_rules = (viewed-more, viewed-end)

-- so is each of a list, told one by one
abbrev pub Each : {A : Type 0} → (A → Type 0) → List A → Type 0
Each P [] = Unit {0}
Each P (x ∷ xs) = P x × Each P xs

pub each-all : {A : Type 0} (P : A → Type 0) (xs : List A) → Each P xs → All P xs
each-all P [] h k d l = absurd (omega (arith, l))
each-all P (x ∷ xs) h zero d l = h.0
each-all P (x ∷ xs) h (suc k) d l = each-all P xs h.1 k d (omega (arith, l))

-- each of what all_of answers is answered for one of the list, so what each answer for one of these has all have
module _ {A B : Type 0} (f : A → Result B polyfill.PolyfillRefusal) (Q : A → Type 0) (P : B → Type 0) (each : (x : A) (y : B) → Q x → f x ≡ Ok y → P y) where
  one-has : (x : A) (xs : List A) (r : Result B polyfill.PolyfillRefusal) (rs : Result (List B) polyfill.PolyfillRefusal) (ys : List B) → Q x → f x ≡ r
      → ((zs : List B) → rs ≡ Ok zs → Each P zs) → mapped_then r rs ≡ Ok ys → Each P ys
  one-has x xs (Ok y) (Ok zs) [] i e h k = cc
  one-has x xs (Ok y) (Ok zs) (w ∷ ws) i e h k = subst (Each P) (the-list k) (each x y i e, h zs refl)
    where
      the-list : mapped_then (Ok y) (Ok zs) ≡ Ok (w ∷ ws) → y ∷ zs ≡ w ∷ ws
      the-list q = cc
  one-has x xs (Ok y) (Err why) ys i e h k = cc
  one-has x xs (Err why) rs ys i e h k = cc

  pub each-has : (xs : List A) (ys : List B) → Each Q xs → all_or_refusal f xs ≡ Ok ys → Each P ys
  each-has [] [] i e = tt
  each-has [] (y ∷ ys) i e = cc
  each-has (x ∷ xs) ys i e = one-has x xs (f x) (all_or_refusal f xs) ys i.0 refl (λ zs q. each-has xs zs i.1 q) e

pub anything : {A : Type 0} (xs : List A) → Each (λ _. Unit {0}) xs
anything [] = tt
anything (x ∷ xs) = (tt, anything xs)

-- whatever stands in the list
all-have : {A B : Type 0} (f : A → Result B polyfill.PolyfillRefusal) (P : B → Type 0) → ((x : A) (y : B) → f x ≡ Ok y → P y)
    → (xs : List A) (ys : List B) → all_or_refusal f xs ≡ Ok ys → Each P ys
all-have f P each xs ys e = each-has f (λ _. Unit {0}) P (λ x y i q. each x y q) xs ys (anything xs) e

-- a mapped function, by what its lists are
abbrev IsMappedView : MappedFunction → Type 0
IsMappedView f = f ≡ function_mapped f.new f.old

abbrev AreMappedViews : MappedModule → Type 0
AreMappedViews m = Each IsMappedView m.functions

found-mapped : (new : ModuleTree) (old : FunctionTree) (o : Option FunctionTree) (f : MappedFunction) → function_or_none new old o ≡ Ok f → IsMappedView f
found-mapped new old None f e = cc
found-mapped new old (Some g) f e = subst IsMappedView (the-function e) refl
  where
    the-function : function_or_none new old (Some g) ≡ Ok f → function_mapped g old ≡ f
    the-function q = cc

function-mapped : (new : ModuleTree) (old : FunctionTree) (f : MappedFunction) → function_answer new old ≡ Ok f → IsMappedView f
function-mapped new old f e = found-mapped new old (func_called new.items old.name) f e

as-mapped : (new old : ModuleTree) (r : Result (List MappedFunction) polyfill.PolyfillRefusal) (m : MappedModule) → ((fs : List MappedFunction) → r ≡ Ok fs → Each IsMappedView fs)
    → as_mapped_module new old r ≡ Ok m → AreMappedViews m
as-mapped new old (Err why) m h e = cc
as-mapped new old (Ok fs) m h e = subst AreMappedViews (the-module e) (h fs refl)
  where
    the-module : as_mapped_module new old (Ok fs) ≡ Ok m → record { new = new; old = old; functions = fs } ≡ m
    the-module q = cc

module-mapped : (new old : ModuleTree) (m : MappedModule) → module_answer new old ≡ Ok m → AreMappedViews m
module-mapped new old m e =
    as-mapped new old (all_or_refusal (function_answer new) (funcs_of old.items)) m
    (all-have (function_answer new) IsMappedView (function-mapped new) (funcs_of old.items)) e

pair-mapped : (names : List ℕ × List ℕ) (new old : Option ModuleTree) (m : MappedModule) → new_or_none names.0 names.1 new old ≡ Ok m → AreMappedViews m
pair-mapped names None old m e = cc
pair-mapped names (Some new) None m e = cc
pair-mapped names (Some new) (Some old) m e = module-mapped new old m e

views-mapped : (new old : List DefinitionTree) (pairs : List (List ℕ × List ℕ)) (ms : List MappedModule) → polyfill_answer new old pairs ≡ Ok ms → Each AreMappedViews ms
views-mapped new old pairs ms e =
    all-have (pair_answer new old) AreMappedViews (λ names m q. pair-mapped names (module_called new names.0) (module_called old names.1) m q) pairs ms e

-- as the program has them
functions-mapped : (fs : List FuncPolyfill) → Each IsMappedView (map function_view fs) → Each IsMapped fs
functions-mapped [] h = tt
functions-mapped (f ∷ fs) h = (h.0, functions-mapped fs h.1)

modules-mapped : (ms : List ModulePolyfill) → Each AreMappedViews (map module_view ms) → Each AreMapped ms
modules-mapped [] h = tt
modules-mapped (m ∷ ms) h = (each-all IsMapped m.funcs (functions-mapped m.funcs h.0), modules-mapped ms h.1)

pub mapped-module : (new old : ModuleTree) (m : ModulePolyfill) → module_answer new old ≡ Ok (module_view m) → AreMapped m
mapped-module new old m e = each-all IsMapped m.funcs (functions-mapped m.funcs (module-mapped new old (module_view m) e))

pub answers-mapped : (new old : List DefinitionTree) (pairs : List (List ℕ × List ℕ)) (ms : List ModulePolyfill) → polyfill_answer new old pairs ≡ Ok (map module_view ms)
    → All AreMapped ms
answers-mapped new old pairs ms e = each-all AreMapped ms (modules-mapped ms (views-mapped new old pairs (map module_view ms) e))

-- what is told where there is no shim
pub refused-line : {U E : Type 0} (r : Result U E) (f : MappedFunction) (why : Option ShimRefusal) (old new : List ℕ)
    → OnOk r ((x : ShimRefusal) × (why ≡ Some x) × (new ≡ old ++ refusal_line x)) → OnOk r (new ≡ old ++ passing_line f why)
refused-line (Ok u) f why old new (x, e, n) = n ∙ ap (λ w. old ++ passing_line f w) (sym e)
refused-line (Err e) f why old new h = tt
