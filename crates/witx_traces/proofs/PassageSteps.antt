-- What a loop over definitions has put into a draft, with what those still to come put, is the whole.
use Rattle.std.proofs.Common.{◌≡◌, ℕ, ◌+◌, ◌<◌, ◌≤◌, List, [], ◌∷◌, length, get_or, map, drop, sym, ap, ◌∙◌}
use Rattle.std.proofs.lemmas.List.{drop_more, drop_all, drop-map}
use Rattle.std.specs.declared.alloc.Global.{Global}
use Rattle.std.specs.declared.rc.Rc.{Rc}
use Rattle.witx_ast.specs.declared.types.NamedType.{NamedType}
use Rattle.witx_ast.specs.declared.module.Module.{Module}
use Rattle.witx_ast.specs.declared.module.ModuleImport.{ModuleImport}
use Rattle.witx_ast.specs.declared.function.InterfaceFunc.{InterfaceFunc}
use Rattle.witx_ast.specs.declared.module.ModuleDefinition as item
use Rattle.witx_ast.specs.declared.module.ModuleDefinition.TheVariants as item_variant
use Rattle.witx_ast.specs.declared.definition.Constant.{Constant}
use Rattle.witx_ast.specs.declared.definition.Definition as definition
use Rattle.witx_ast.specs.declared.definition.Definition.TheVariants as definition_variant
use Rattle.witx_ast.specs.Items.{item_tree}
use Rattle.witx_ast.specs.Definitions.{definition_tree, module_tree}
use Rattle.witx_layout.specs.declared.layout.SizeAlign.{SizeAlign}
use Rattle.witx_adapt.specs.declared.adapted.AdaptedFunc.{AdaptedFunc}
use Rattle.witx_adapt.specs.Listings.{func_count, import_line, listed_typename_lines, module_line, constant_line}
use Rattle.witx_adapt.proofs.ListingSteps.{import-left, func-left, left-end}
use Rattle.witx_traces.specs.Passages.{Draft, Passage, put, put_func, put_items, put_definitions}
use Rattle.witx_traces.specs.Traces.{Offered, offered}
use Rattle.witx_traces.proofs.TypeReading.{pushed}

trees-drop : {A B : Type 0} (f : A → B) (xs : List A) (i : ℕ) (x : A) → i < length xs → x ≡ get_or xs i x → map f (drop i xs) ≡ f x ∷ map f (drop (i + 1) xs)
trees-drop f xs i x l p = ap (map f) (drop_more xs i x l ∙ ap (λ y. y ∷ drop (i + 1) xs) (sym p))

-- ---- the items of a module

next-item : (xs : List item.ModuleDefinition) (i : ℕ) (x y : item.ModuleDefinition) → i < length xs → x ≡ get_or xs i x → x ≡ y → map item_tree (drop i xs) ≡ item_tree y ∷ map item_tree (drop (i + 1) xs)
next-item xs i x y l p q = trees-drop item_tree xs i x l p ∙ ap (λ z. item_tree z ∷ map item_tree (drop (i + 1) xs)) q

pub import-step : (xs : List item.ModuleDefinition) (i : ℕ) (x : item.ModuleDefinition) (r : Rc ModuleImport Global) (fs : List AdaptedFunc) (done now total : Draft)
    → i < length xs → x ≡ get_or xs i x → x ≡ item_variant.Import r → now ≡ put (import_line r.value.name) done
    → put_items (map item_tree (drop i xs)) (map offered fs) done ≡ total → put_items (map item_tree (drop (i + 1) xs)) (map offered fs) now ≡ total
import-step xs i x r fs done now total l p q w e =
    ap (put_items (map item_tree (drop (i + 1) xs)) (map offered fs)) w ∙ (ap (λ ts. put_items ts (map offered fs) done) (sym (next-item xs i x (item_variant.Import r) l p q)) ∙ e)

pub func-step : (xs : List item.ModuleDefinition) (i : ℕ) (x : item.ModuleDefinition) (r : Rc InterfaceFunc Global) (fs gs : List AdaptedFunc) (done now total : Draft)
    → i < length xs → x ≡ get_or xs i x → x ≡ item_variant.Func r → now ≡ put_func r.value.name r.value.abi (map offered fs) done → gs ≡ drop 1 fs
    → put_items (map item_tree (drop i xs)) (map offered fs) done ≡ total → put_items (map item_tree (drop (i + 1) xs)) (map offered gs) now ≡ total
func-step xs i x r fs gs done now total l p q w d e =
    ap (put_items (map item_tree (drop (i + 1) xs)) (map offered gs)) w
    ∙ (ap (λ hs. put_items (map item_tree (drop (i + 1) xs)) hs (put_func r.value.name r.value.abi (map offered fs) done)) (ap (map offered) d ∙ sym (drop-map offered 1 fs))
    ∙ (ap (λ ts. put_items ts (map offered fs) done) (sym (next-item xs i x (item_variant.Func r) l p q)) ∙ e))

pub items-end : (xs : List item.ModuleDefinition) (i : ℕ) (fs : List Offered) (done total : Draft) → length xs ≤ i → put_items (map item_tree (drop i xs)) fs done ≡ total → done ≡ total
items-end xs i fs done total l e = ap (λ ys. put_items (map item_tree ys) fs done) (sym (drop_all i xs l)) ∙ e

pub ruleset item_rules = (import-step, func-step, items-end, import-left, func-left, left-end)

-- ---- definitions

next-tree : (xs : List definition.Definition) (i : ℕ) (x y : definition.Definition) → i < length xs → x ≡ get_or xs i x → x ≡ y
    → map definition_tree (drop i xs) ≡ definition_tree y ∷ map definition_tree (drop (i + 1) xs)
next-tree xs i x y l p q = trees-drop definition_tree xs i x l p ∙ ap (λ z. definition_tree z ∷ map definition_tree (drop (i + 1) xs)) q

pub typename-step : (xs : List definition.Definition) (i : ℕ) (x : definition.Definition) (r : Rc NamedType Global) (fs : List Offered) (ls ms : List SizeAlign) (done now total : Draft)
    → i < length xs → x ≡ get_or xs i x → x ≡ definition_variant.Typename r → now ≡ put (listed_typename_lines r.value.name ls) done → ms ≡ drop 1 ls
    → put_definitions (map definition_tree (drop i xs)) fs ls done ≡ total → put_definitions (map definition_tree (drop (i + 1) xs)) fs ms now ≡ total
typename-step xs i x r fs ls ms done now total l p q w d e =
    ap (put_definitions (map definition_tree (drop (i + 1) xs)) fs ms) w
    ∙ (ap (λ ks. put_definitions (map definition_tree (drop (i + 1) xs)) fs ks (put (listed_typename_lines r.value.name ls) done)) d
    ∙ (ap (λ ts. put_definitions ts fs ls done) (sym (next-tree xs i x (definition_variant.Typename r) l p q)) ∙ e))

pub constant-step : (xs : List definition.Definition) (i : ℕ) (x : definition.Definition) (k : Constant) (fs : List Offered) (ls : List SizeAlign) (done now total : Draft)
    → i < length xs → x ≡ get_or xs i x → x ≡ definition_variant.Constant k → now ≡ put (constant_line k) done
    → put_definitions (map definition_tree (drop i xs)) fs ls done ≡ total → put_definitions (map definition_tree (drop (i + 1) xs)) fs ls now ≡ total
constant-step xs i x k fs ls done now total l p q w e =
    ap (put_definitions (map definition_tree (drop (i + 1) xs)) fs ls) w ∙ (ap (λ ts. put_definitions ts fs ls done) (sym (next-tree xs i x (definition_variant.Constant k) l p q)) ∙ e)

pub module-step : (xs : List definition.Definition) (i : ℕ) (x : definition.Definition) (r : Rc Module Global) (fs gs : List AdaptedFunc) (ls : List SizeAlign) (done now total : Draft)
    → i < length xs → x ≡ get_or xs i x → x ≡ definition_variant.Module r
    → now ≡ put_items (module_tree r.value).items (map offered fs) (put (module_line r.value.name) done) → gs ≡ drop (func_count (module_tree r.value).items) fs
    → put_definitions (map definition_tree (drop i xs)) (map offered fs) ls done ≡ total → put_definitions (map definition_tree (drop (i + 1) xs)) (map offered gs) ls now ≡ total
module-step xs i x r fs gs ls done now total l p q w d e =
    let n = func_count (module_tree r.value).items in
    ap (put_definitions (map definition_tree (drop (i + 1) xs)) (map offered gs) ls) w
    ∙ (ap (λ hs. put_definitions (map definition_tree (drop (i + 1) xs)) hs ls (put_items (module_tree r.value).items (map offered fs) (put (module_line r.value.name) done))) (ap (map offered) d ∙ sym (drop-map offered n fs))
    ∙ (ap (λ ts. put_definitions ts (map offered fs) ls done) (sym (next-tree xs i x (definition_variant.Module r) l p q)) ∙ e))

pub definitions-end : (xs : List definition.Definition) (i : ℕ) (fs : List Offered) (ls : List SizeAlign) (done total : Draft) → length xs ≤ i → put_definitions (map definition_tree (drop i xs)) fs ls done ≡ total → done ≡ total
definitions-end xs i fs ls done total l e = ap (λ ys. put_definitions (map definition_tree ys) fs ls done) (sym (drop_all i xs l)) ∙ e

pub ruleset definition_rules = (typename-step, constant-step, module-step, definitions-end)

abbrev draft : List Passage → List ℕ → Draft
draft done text = record { done = done; text = text }

pub draft-ended : (a b : List Passage) (x : List ℕ) → a ≡ b → x ≡ [] → draft a x ≡ draft b []
draft-ended a b x e f = ap (λ z. draft z x) e ∙ ap (λ z. draft b z) f

pub ruleset end_rules = (pushed, draft-ended)
