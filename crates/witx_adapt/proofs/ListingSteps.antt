-- What a loop over definitions has written, with the lines of those still to come, is the whole listing.
use Rattle.std.proofs.Common.{◌≡◌, ℕ, ◌+◌, ◌<◌, ◌≤◌, List, [], ◌∷◌, ◌++◌, length, get_or, map, drop, sym, ap, ◌∙◌, append_assoc, append-nil, refl, zero, suc}
use Rattle.std.proofs.lemmas.List.{drop_more, drop_all, drop-drop}
use Rattle.std.specs.declared.alloc.Global.{Global}
use Rattle.std.specs.declared.rc.Rc.{Rc}
use Rattle.witx_ast.specs.declared.types.NamedType.{NamedType}
use Rattle.witx_ast.specs.declared.module.Module.{Module}
use Rattle.witx_ast.specs.declared.module.ModuleImport.{ModuleImport}
use Rattle.witx_ast.specs.declared.function.InterfaceFunc.{InterfaceFunc}
use Rattle.witx_ast.specs.declared.module.ModuleDefinition as item
use Rattle.witx_ast.specs.declared.module.ModuleDefinition.TheVariants as item_variant
use Rattle.witx_ast.specs.declared.definition.Constant.{Constant}
use Rattle.witx_ast.specs.declared.definition.Definition as definition
use Rattle.witx_ast.specs.declared.definition.Definition.TheVariants as definition_variant
use Rattle.witx_ast.specs.Items.{item_tree}
use Rattle.witx_ast.specs.Definitions.{definition_tree, module_tree}
use Rattle.witx_layout.specs.declared.layout.SizeAlign.{SizeAlign}
use Rattle.witx_adapt.specs.declared.adapted.AdaptedFunc.{AdaptedFunc}
use Rattle.witx_adapt.specs.Entries.{Lowered, lowered}
use Rattle.witx_adapt.specs.Listings.{item_lines, func_count, import_line, next_func_lines, listed_definition_lines, listed_typename_lines, module_line, constant_line}

trees-drop : {A B : Type 0} (f : A → B) (xs : List A) (i : ℕ) (x : A) → i < length xs → x ≡ get_or xs i x → map f (drop i xs) ≡ f x ∷ map f (drop (i + 1) xs)
trees-drop f xs i x l p = ap (map f) (drop_more xs i x l ∙ ap (λ y. y ∷ drop (i + 1) xs) (sym p))

map-drop : {A B : Type 0} (f : A → B) (n : ℕ) (xs : List A) → map f (drop n xs) ≡ drop n (map f xs)
map-drop f zero xs = refl
map-drop f (suc n) [] = refl
map-drop f (suc n) (x ∷ xs) = map-drop f n xs

-- a step that writes some lines and goes on with the rest
joined : (done now lines more total : List ℕ) → now ≡ done ++ lines → done ++ (lines ++ more) ≡ total → now ++ more ≡ total
joined done now lines more total p e = ap (λ s. s ++ more) p ∙ append_assoc done lines more ∙ e

pub import-step : (xs : List item.ModuleDefinition) (i : ℕ) (x : item.ModuleDefinition) (r : Rc ModuleImport Global) (fs : List AdaptedFunc) (done now total : List ℕ)
    → i < length xs → x ≡ get_or xs i x → x ≡ item_variant.Import r → now ≡ done ++ import_line r.value.name
    → done ++ item_lines (map item_tree (drop i xs)) (map lowered fs) ≡ total
    → now ++ item_lines (map item_tree (drop (i + 1) xs)) (map lowered fs) ≡ total
import-step xs i x r fs done now total l p q w e =
    joined done now (import_line r.value.name) (item_lines (map item_tree (drop (i + 1) xs)) (map lowered fs)) total w
    (ap (λ ts. done ++ item_lines ts (map lowered fs)) (sym (trees-drop item_tree xs i x l p ∙ ap (λ y. item_tree y ∷ map item_tree (drop (i + 1) xs)) q)) ∙ e)

pub func-step : (xs : List item.ModuleDefinition) (i : ℕ) (x : item.ModuleDefinition) (r : Rc InterfaceFunc Global) (fs gs : List AdaptedFunc) (done now total : List ℕ)
    → i < length xs → x ≡ get_or xs i x → x ≡ item_variant.Func r → now ≡ done ++ next_func_lines r.value.name r.value.abi (map lowered fs) → gs ≡ drop 1 fs
    → done ++ item_lines (map item_tree (drop i xs)) (map lowered fs) ≡ total
    → now ++ item_lines (map item_tree (drop (i + 1) xs)) (map lowered gs) ≡ total
func-step xs i x r fs gs done now total l p q w d e =
    joined done now (next_func_lines r.value.name r.value.abi (map lowered fs)) (item_lines (map item_tree (drop (i + 1) xs)) (map lowered gs)) total w
    (ap (λ hs. done ++ (next_func_lines r.value.name r.value.abi (map lowered fs) ++ item_lines (map item_tree (drop (i + 1) xs)) hs)) (ap (map lowered) d ∙ map-drop lowered 1 fs)
    ∙ ap (λ ts. done ++ item_lines ts (map lowered fs)) (sym (trees-drop item_tree xs i x l p ∙ ap (λ y. item_tree y ∷ map item_tree (drop (i + 1) xs)) q)) ∙ e)

pub items-end : (xs : List item.ModuleDefinition) (i : ℕ) (fs : List Lowered) (done total : List ℕ) → length xs ≤ i → done ++ item_lines (map item_tree (drop i xs)) fs ≡ total → done ≡ total
items-end xs i fs done total l e = sym (append-nil done) ∙ ap (λ ys. done ++ item_lines (map item_tree ys) fs) (sym (drop_all i xs l)) ∙ e

-- the functions that are left
pub import-left : (xs : List item.ModuleDefinition) (i : ℕ) (x : item.ModuleDefinition) (r : Rc ModuleImport Global) (fs all : List AdaptedFunc)
    → i < length xs → x ≡ get_or xs i x → x ≡ item_variant.Import r
    → drop (func_count (map item_tree (drop i xs))) fs ≡ all → drop (func_count (map item_tree (drop (i + 1) xs))) fs ≡ all
import-left xs i x r fs all l p q e = ap (λ ts. drop (func_count ts) fs) (sym (trees-drop item_tree xs i x l p ∙ ap (λ y. item_tree y ∷ map item_tree (drop (i + 1) xs)) q)) ∙ e

pub func-left : (xs : List item.ModuleDefinition) (i : ℕ) (x : item.ModuleDefinition) (r : Rc InterfaceFunc Global) (fs gs all : List AdaptedFunc)
    → i < length xs → x ≡ get_or xs i x → x ≡ item_variant.Func r → gs ≡ drop 1 fs
    → drop (func_count (map item_tree (drop i xs))) fs ≡ all → drop (func_count (map item_tree (drop (i + 1) xs))) gs ≡ all
func-left xs i x r fs gs all l p q d e =
    let n = func_count (map item_tree (drop (i + 1) xs)) in
    ap (drop n) d ∙ drop-drop n 1 fs ∙ ap (λ ts. drop (func_count ts) fs) (sym (trees-drop item_tree xs i x l p ∙ ap (λ y. item_tree y ∷ map item_tree (drop (i + 1) xs)) q)) ∙ e

pub left-end : (xs : List item.ModuleDefinition) (i : ℕ) (fs all : List AdaptedFunc) → length xs ≤ i → drop (func_count (map item_tree (drop i xs))) fs ≡ all → fs ≡ all
left-end xs i fs all l e = ap (λ ys. drop (func_count (map item_tree ys)) fs) (sym (drop_all i xs l)) ∙ e

pub ruleset item_rules = (import-step, func-step, items-end, import-left, func-left, left-end)

-- the tree of the definition that comes next, before those behind it
next-tree : (xs : List definition.Definition) (i : ℕ) (x y : definition.Definition) → i < length xs → x ≡ get_or xs i x → x ≡ y
    → map definition_tree (drop i xs) ≡ definition_tree y ∷ map definition_tree (drop (i + 1) xs)
next-tree xs i x y l p q = trees-drop definition_tree xs i x l p ∙ ap (λ z. definition_tree z ∷ map definition_tree (drop (i + 1) xs)) q

pub typename-step : (xs : List definition.Definition) (i : ℕ) (x : definition.Definition) (r : Rc NamedType Global) (fs : List Lowered) (ls ms : List SizeAlign) (done now total : List ℕ)
    → i < length xs → x ≡ get_or xs i x → x ≡ definition_variant.Typename r → now ≡ done ++ listed_typename_lines r.value.name ls → ms ≡ drop 1 ls
    → done ++ listed_definition_lines (map definition_tree (drop i xs)) fs ls ≡ total
    → now ++ listed_definition_lines (map definition_tree (drop (i + 1) xs)) fs ms ≡ total
typename-step xs i x r fs ls ms done now total l p q w d e =
    joined done now (listed_typename_lines r.value.name ls) (listed_definition_lines (map definition_tree (drop (i + 1) xs)) fs ms) total w
    (ap (λ ks. done ++ (listed_typename_lines r.value.name ls ++ listed_definition_lines (map definition_tree (drop (i + 1) xs)) fs ks)) d
    ∙ ap (λ ts. done ++ listed_definition_lines ts fs ls) (sym (next-tree xs i x (definition_variant.Typename r) l p q)) ∙ e)

pub module-step : (xs : List definition.Definition) (i : ℕ) (x : definition.Definition) (r : Rc Module Global) (fs gs : List AdaptedFunc) (ls : List SizeAlign) (done now total : List ℕ)
    → i < length xs → x ≡ get_or xs i x → x ≡ definition_variant.Module r
    → now ≡ done ++ (module_line r.value.name ++ item_lines (module_tree r.value).items (map lowered fs)) → gs ≡ drop (func_count (module_tree r.value).items) fs
    → done ++ listed_definition_lines (map definition_tree (drop i xs)) (map lowered fs) ls ≡ total
    → now ++ listed_definition_lines (map definition_tree (drop (i + 1) xs)) (map lowered gs) ls ≡ total
module-step xs i x r fs gs ls done now total l p q w d e =
    let lines = module_line r.value.name ++ item_lines (module_tree r.value).items (map lowered fs) in
    let n = func_count (module_tree r.value).items in
    joined done now lines (listed_definition_lines (map definition_tree (drop (i + 1) xs)) (map lowered gs) ls) total w
    (ap (λ hs. done ++ (lines ++ listed_definition_lines (map definition_tree (drop (i + 1) xs)) hs ls)) (ap (map lowered) d ∙ map-drop lowered n fs)
    ∙ ap (λ ts. done ++ listed_definition_lines ts (map lowered fs) ls) (sym (next-tree xs i x (definition_variant.Module r) l p q)) ∙ e)

pub constant-step : (xs : List definition.Definition) (i : ℕ) (x : definition.Definition) (c : Constant) (fs : List Lowered) (ls : List SizeAlign) (done now total : List ℕ)
    → i < length xs → x ≡ get_or xs i x → x ≡ definition_variant.Constant c → now ≡ done ++ constant_line c
    → done ++ listed_definition_lines (map definition_tree (drop i xs)) fs ls ≡ total
    → now ++ listed_definition_lines (map definition_tree (drop (i + 1) xs)) fs ls ≡ total
constant-step xs i x c fs ls done now total l p q w e =
    joined done now (constant_line c) (listed_definition_lines (map definition_tree (drop (i + 1) xs)) fs ls) total w
    (ap (λ ts. done ++ listed_definition_lines ts fs ls) (sym (next-tree xs i x (definition_variant.Constant c) l p q)) ∙ e)

pub definitions-end : (xs : List definition.Definition) (i : ℕ) (fs : List Lowered) (ls : List SizeAlign) (done total : List ℕ) → length xs ≤ i → done ++ listed_definition_lines (map definition_tree (drop i xs)) fs ls ≡ total → done ≡ total
definitions-end xs i fs ls done total l e = sym (append-nil done) ∙ ap (λ ys. done ++ listed_definition_lines (map definition_tree ys) fs ls) (sym (drop_all i xs l)) ∙ e

pub ruleset definition_rules = (typename-step, module-step, constant-step, definitions-end)
