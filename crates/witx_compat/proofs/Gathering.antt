-- One more function, or one more module; the first refusal.
use Rattle.std.specs.Prelude.{◌≡◌, ℕ, ◌+◌, ◌≤◌, ◌<◌, List, [], ◌∷◌, ◌++◌, map, length, drop, Option, Some, None, Result, Ok, Err}
use Rattle.std.proofs.Common.{refl, sym, ◌∙◌, ap, get_or}
use Rattle.std.proofs.lemmas.List.{drop_more, drop_all, map-append, append_assoc, append-nil}
use Rattle.std.specs.declared.alloc.Global.{Global}
use Rattle.std.specs.declared.rc.Rc.{Rc}
use Rattle.witx_ast.specs.Functions.{FunctionTree, func_tree}
use Rattle.witx_ast.specs.Items.{item_tree, funcs_of}
use Rattle.witx_ast.specs.declared.function.InterfaceFunc.{InterfaceFunc}
use Rattle.witx_ast.specs.declared.module.ModuleImport.{ModuleImport}
use Rattle.witx_ast.specs.declared.module.ModuleDefinition.{ModuleDefinition}
use Rattle.witx_ast.specs.declared.module.ModuleDefinition.TheVariants as item
use Rattle.witx_compat.specs.declared.error.PolyfillError.{PolyfillError}
use Rattle.witx_ast.specs.Definitions.{ModuleTree}
use Rattle.witx_compat.specs.Polyfills.{PolyfillRefusal, no_module, no_function, mapped_then, all_or_refusal, MappedFunction, MappedModule, function_mapped, function_or_none, as_mapped_module, module_answer, new_or_none}
use Rattle.witx_compat.specs.Gathered.{put_before, before}
use Rattle.witx_compat.specs.Views.{IsPolyfillRefusal}

abbrev given : {A : Type 0} → A → Result A PolyfillRefusal
given x = Ok x

abbrev given_or : {A : Type 0} → A → Result A PolyfillRefusal → A
given_or other (Ok x) = x
given_or other (Err refusal) = other

-- nothing is made yet
before-none : {B : Type 0} (rest : Result (List B) PolyfillRefusal) → before [] rest ≡ rest
before-none (Ok ys) = refl
before-none (Err refusal) = refl

pub begins : {A B : Type 0} (view : A → B) (made : List A) (rest : Result (List B) PolyfillRefusal) → made ≡ [] → before (map view made) rest ≡ rest
begins view made rest e = rw e (before-none rest)

pub put-given : {A B : Type 0} (view : A → B) (made next : List A) (x : A) (a : Result B PolyfillRefusal) → a ≡ Ok (view x) → next ≡ made ++ x ∷ []
    → put_before (map view made) a ≡ Ok (map view next)
put-given view made next x a e n = rw (e, n, map-append view made (x ∷ [])) refl

-- want of memory may come for any answer
pub says-memory : {A : Type 0} (a : Result A PolyfillRefusal) (e : PolyfillError) → e ≡ PolyfillError.OutOfMemory → IsPolyfillRefusal a e
says-memory a e h = rw h tt

-- the new function, and the two modules
pub function-some : (new : ModuleTree) (old f : FunctionTree) (o : Option FunctionTree) (m : MappedFunction) → o ≡ Some f → m ≡ function_mapped f old → function_or_none new old o ≡ Ok m
function-some new old f o m e n = rw (e, n) refl

pub function-none : (new : ModuleTree) (old : FunctionTree) (o : Option FunctionTree) (owner name : List ℕ) → o ≡ None → owner ≡ new.name → name ≡ old.name
    → function_or_none new old o ≡ Err (no_function owner name)
function-none new old o owner name e p q = rw (e, p, q) refl

pub both-modules : (a b : List ℕ) (n o : Option ModuleTree) (new old : ModuleTree) (m : MappedModule) → n ≡ Some new → o ≡ Some old → module_answer new old ≡ Ok m → new_or_none a b n o ≡ Ok m
both-modules a b n o new old m p q h = rw (p, q) h

pub both-refused : (a b : List ℕ) (n o : Option ModuleTree) (new old : ModuleTree) (e : PolyfillError) → n ≡ Some new → o ≡ Some old → IsPolyfillRefusal (module_answer new old) e → IsPolyfillRefusal (new_or_none a b n o) e
both-refused a b n o new old e p q h = rw (p, q) h

pub no-new : (a b name : List ℕ) (n o : Option ModuleTree) → n ≡ None → name ≡ a → new_or_none a b n o ≡ Err (no_module name)
no-new a b name n o p e = rw (p, e) refl

pub no-old : (a b name : List ℕ) (n o : Option ModuleTree) (new : ModuleTree) → n ≡ Some new → o ≡ None → name ≡ b → new_or_none a b n o ≡ Err (no_module name)
no-old a b name n o new p q e = rw (p, q, e) refl

-- one that is given
given-then : {B : Type 0} (made : List B) (y : B) (rest : Result (List B) PolyfillRefusal) → before made (mapped_then (Ok y) rest) ≡ before (made ++ y ∷ []) rest
given-then made y (Ok ys) = ap given (sym (append_assoc made (y ∷ []) ys))
given-then made y (Err refusal) = refl

refused-given : {A : Type 0} (refusal : PolyfillRefusal) (x : A) → Err refusal ≡ Ok x → ⊥
refused-given refusal x h = cc

pub next-by : {B : Type 0} (made next : List B) (a : Result B PolyfillRefusal) (rest whole : Result (List B) PolyfillRefusal) → put_before made a ≡ Ok next
    → before made (mapped_then a rest) ≡ whole → before next rest ≡ whole
next-by made next (Ok y) rest whole p e = ap (λ ys. before ys rest) (sym (ap (given_or next) p)) ∙ sym (given-then made y rest) ∙ e
next-by made next (Err refusal) rest whole p e = absurd (refused-given refusal next p)

pub refused-by : {B : Type 0} (made : List B) (a : Result B PolyfillRefusal) (rest whole : Result (List B) PolyfillRefusal) (e : PolyfillError) → IsPolyfillRefusal a e
    → before made (mapped_then a rest) ≡ whole → IsPolyfillRefusal whole e
refused-by made a rest whole (PolyfillError.ModuleNotPresent name) s h = sym h ∙ ap (λ a. before made (mapped_then a rest)) s
refused-by made a rest whole (PolyfillError.FuncNotPresent owner name) s h = sym h ∙ ap (λ a. before made (mapped_then a rest)) s
refused-by made a rest whole PolyfillError.OutOfMemory s h = s

-- items: an import is passed over, a function is taken
pub skip-import : {B : Type 0} (f : FunctionTree → Result B PolyfillRefusal) (made : List B) (whole : Result (List B) PolyfillRefusal) (xs : List ModuleDefinition) (i : ℕ) (d : ModuleDefinition) (m : Rc ModuleImport Global)
    → i < length xs → d ≡ get_or xs i d → d ≡ item.Import m
    → before made (all_or_refusal f (funcs_of (map item_tree (drop i xs)))) ≡ whole → before made (all_or_refusal f (funcs_of (map item_tree (drop (i + 1) xs)))) ≡ whole
skip-import f made whole xs i d m l p e h = rw (drop_more xs i d l, ← p, e) at h

pub take-function : {B : Type 0} (f : FunctionTree → Result B PolyfillRefusal) (made next : List B) (whole : Result (List B) PolyfillRefusal) (xs : List ModuleDefinition) (i : ℕ) (d : ModuleDefinition) (g : Rc InterfaceFunc Global)
    → i < length xs → d ≡ get_or xs i d → d ≡ item.Func g → put_before made (f (func_tree g.value)) ≡ Ok next
    → before made (all_or_refusal f (funcs_of (map item_tree (drop i xs)))) ≡ whole → before next (all_or_refusal f (funcs_of (map item_tree (drop (i + 1) xs)))) ≡ whole
take-function f made next whole xs i d g l p e n h =
    next-by made next (f (func_tree g.value)) (all_or_refusal f (funcs_of (map item_tree (drop (i + 1) xs)))) whole n (rw (drop_more xs i d l, ← p, e) at h)

pub refuse-function : {B : Type 0} (f : FunctionTree → Result B PolyfillRefusal) (made : List B) (whole : Result (List B) PolyfillRefusal) (xs : List ModuleDefinition) (i : ℕ) (d : ModuleDefinition) (g : Rc InterfaceFunc Global) (e : PolyfillError)
    → i < length xs → d ≡ get_or xs i d → d ≡ item.Func g → IsPolyfillRefusal (f (func_tree g.value)) e
    → before made (all_or_refusal f (funcs_of (map item_tree (drop i xs)))) ≡ whole → IsPolyfillRefusal whole e
refuse-function f made whole xs i d g e l p t s h =
    refused-by made (f (func_tree g.value)) (all_or_refusal f (funcs_of (map item_tree (drop (i + 1) xs)))) whole e s (rw (drop_more xs i d l, ← p, t) at h)

pub all-items : {B : Type 0} (f : FunctionTree → Result B PolyfillRefusal) (made : List B) (whole : Result (List B) PolyfillRefusal) (xs : List ModuleDefinition) (i : ℕ)
    → length xs ≤ i → before made (all_or_refusal f (funcs_of (map item_tree (drop i xs)))) ≡ whole → whole ≡ Ok made
all-items f made whole xs i l h = let k = rw (drop_all i xs l) at h in sym k ∙ ap given (append-nil made)

-- the functions make the module
pub module-given : (new old : ModuleTree) (fs : List MappedFunction) (a : Result (List MappedFunction) PolyfillRefusal) → a ≡ Ok fs
    → as_mapped_module new old a ≡ Ok (record { new = new; old = old; functions = fs })
module-given new old fs a e = rw e refl

pub module-refused : (new old : ModuleTree) (a : Result (List MappedFunction) PolyfillRefusal) (e : PolyfillError) → IsPolyfillRefusal a e → IsPolyfillRefusal (as_mapped_module new old a) e
module-refused new old a (PolyfillError.ModuleNotPresent name) s = rw s refl
module-refused new old a (PolyfillError.FuncNotPresent owner name) s = rw s refl
module-refused new old a PolyfillError.OutOfMemory s = s

-- pairs of modules
pub next-pair : {A B : Type 0} (f : A → Result B PolyfillRefusal) (made next : List B) (left rest : List A) (x : A) (whole : Result (List B) PolyfillRefusal)
    → left ≡ x ∷ rest → put_before made (f x) ≡ Ok next → before made (all_or_refusal f left) ≡ whole → before next (all_or_refusal f rest) ≡ whole
next-pair f made next left rest x whole e n h = next-by made next (f x) (all_or_refusal f rest) whole n (rw e at h)

pub refuse-pair : {A B : Type 0} (f : A → Result B PolyfillRefusal) (made : List B) (left rest : List A) (x : A) (whole : Result (List B) PolyfillRefusal) (refused : PolyfillError)
    → left ≡ x ∷ rest → IsPolyfillRefusal (f x) refused → before made (all_or_refusal f left) ≡ whole → IsPolyfillRefusal whole refused
refuse-pair f made left rest x whole refused e s h = refused-by made (f x) (all_or_refusal f rest) whole refused s (rw e at h)

pub all-pairs : {A B : Type 0} (f : A → Result B PolyfillRefusal) (made : List B) (left : List A) (whole : Result (List B) PolyfillRefusal)
    → left ≡ [] → before made (all_or_refusal f left) ≡ whole → whole ≡ Ok made
all-pairs f made left whole e h = let k = rw e at h in sym k ∙ ap given (append-nil made)

pub ruleset module_rules = (begins, put-given, says-memory, function-some, function-none, both-modules, both-refused, no-new, no-old, next-pair, refuse-pair, all-pairs, skip-import, take-function, refuse-function, all-items, module-given, module-refused)
