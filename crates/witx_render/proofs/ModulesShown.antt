-- The expressions of functions and modules, from those of their parts.
use Rattle.std.specs.Prelude.{◌≡◌, ℕ, ◌+◌, ◌<◌, ◌≤◌, true, false, List, [], ◌∷◌, ◌++◌, length, drop, map, filter, codes}
use Rattle.std.proofs.Common.{get_or, refl, sym, ap, ◌∙◌, append_assoc, append-nil}
use Rattle.std.proofs.lemmas.List.{map-append}
use Rattle.std.specs.declared.alloc.Global.{Global}
use Rattle.std.specs.declared.rc.Rc.{Rc}
use Rattle.witx_ast.specs.declared.module.ModuleImport.{ModuleImport}
use Rattle.witx_ast.specs.declared.function.InterfaceFunc.{InterfaceFunc}
use Rattle.witx_ast.specs.declared.module.ModuleDefinition.{ModuleDefinition}
use Rattle.witx_ast.specs.declared.module.ModuleDefinition.TheVariants as variant
use Rattle.witx_ast.specs.Tree.{Field}
use Rattle.witx_ast.specs.Functions.{FunctionTree, func_tree}
use Rattle.witx_ast.specs.Items.{ItemTree, item_tree}
use Rattle.witx_ast.specs.Definitions.{ModuleTree}
use Rattle.witx_render.specs.declared.expression.SExpr as code
use Rattle.witx_render.specs.Expressions.{SExpr, vec, word, ident, annot, SExprs, ◌▹◌, exprs_of}
use Rattle.witx_render.specs.ExpressionViews.{expr_view, exprs_view}
use Rattle.witx_render.specs.ModuleExpressions.{export_expr, param_expr, param_exprs, noreturn_mark, stored_expressions, func_parts, func_expr, import_expr, item_expr, item_exprs, is_import, is_func, module_expressions}
use Rattle.witx_render.specs.Lists.{func_words, module_words}
use Rattle.witx_render.proofs.ItemsBuilt.{one_more, next-shown, all-shown, picked_next, passed_next, picked_all}

-- ---- functions

params_front : (w : List ℕ) (ps : List Field) (more : List SExpr) → exprs_of (map (param_expr w) ps ++ more) ≡ param_exprs w ps (exprs_of more)
params_front w [] more = refl
params_front w (p ∷ ps) more = ap (λ (l : SExprs). param_expr w p ▹ l) (params_front w ps more)

pub func-built : (f : FunctionTree) (head params results noreturn whole : List SExpr) → head ≡ func_words f.name
    → params ≡ head ++ map (param_expr (codes "param")) f.params → results ≡ params ++ map (param_expr (codes "result")) f.results
    → noreturn ≡ results ++ noreturn_mark f.noreturn → whole ≡ noreturn ++ stored_expressions f.abi → vec (exprs_of whole) ≡ vec (func_parts f)
func-built f head params results noreturn whole h p r n w =
    let ps = map (param_expr (codes "param")) f.params in
    let rs = map (param_expr (codes "result")) f.results in
    let m = noreturn_mark f.noreturn in
    let s = stored_expressions f.abi in
    ap (λ (k : List SExpr). vec (exprs_of k))
    (w ∙ ap (λ (k : List SExpr). k ++ s) (n ∙ ap (λ (k : List SExpr). k ++ m) (r ∙ ap (λ (k : List SExpr). k ++ rs) (p ∙ ap (λ (k : List SExpr). k ++ ps) h)))
    ∙ append_assoc (((func_words f.name ++ ps) ++ rs)) m s
    ∙ append_assoc (func_words f.name ++ ps) rs (m ++ s)
    ∙ append_assoc (func_words f.name) ps (rs ++ (m ++ s)))
    ∙ ap (λ (k : SExprs). vec (annot (codes "interface") ▹ word (codes "func") ▹ export_expr f.name ▹ k))
    (params_front (codes "param") f.params (rs ++ (m ++ s)) ∙ ap (param_exprs (codes "param") f.params) (params_front (codes "result") f.results (m ++ s)))

-- ---- modules

items_listed : (is : List ItemTree) → exprs_of (map item_expr is) ≡ item_exprs is
items_listed [] = refl
items_listed (i ∷ is) = ap (λ (l : SExprs). item_expr i ▹ l) (items_listed is)

pub module-built : (m : ModuleTree) (head imports whole : List SExpr) → head ≡ module_words m.name
    → imports ≡ head ++ map item_expr (filter is_import m.items) → whole ≡ imports ++ map item_expr (filter is_func m.items)
    → vec (exprs_of whole) ≡ vec (module_expressions m)
module-built m head imports whole h i w =
    let is = map item_expr (filter is_import m.items) in
    let fs = map item_expr (filter is_func m.items) in
    ap (λ (k : List SExpr). vec (exprs_of k))
    (w ∙ ap (λ (k : List SExpr). k ++ fs) (i ∙ ap (λ (k : List SExpr). k ++ is) h)
    ∙ append_assoc (module_words m.name) is fs
    ∙ ap (λ (k : List SExpr). module_words m.name ++ k) (sym (map-append item_expr (filter is_import m.items) (filter is_func m.items))))
    ∙ ap (λ (k : SExprs). vec (word (codes "module") ▹ ident m.name ▹ k)) (items_listed (filter is_import m.items ++ filter is_func m.items))

pub import-shown : (xs : List ModuleDefinition) (i : ℕ) (x : ModuleDefinition) (r : Rc ModuleImport Global) (items : List code.SExpr) (e : code.SExpr) (n : List SExpr)
    → i < length xs → x ≡ get_or xs i x → x ≡ variant.Import r → expr_view e ≡ import_expr r.value
    → map expr_view items ++ map item_expr (filter is_import (map item_tree (drop i xs))) ≡ n
    → map expr_view (items ++ e ∷ []) ++ map item_expr (filter is_import (map item_tree (drop (i + 1) xs))) ≡ n
import-shown xs i x r items e n l p q v h =
    let rest = filter is_import (map item_tree (drop (i + 1) xs)) in
    one_more items e (import_expr r.value) (map item_expr rest) n v
    (ap (λ k. map expr_view items ++ map item_expr k)
    (sym (picked_next is_import item_tree xs i x l p (ap (λ y. is_import (item_tree y)) q) ∙ ap (λ y. item_tree y ∷ rest) q)) ∙ h)

pub func-passed : (xs : List ModuleDefinition) (i : ℕ) (x : ModuleDefinition) (r : Rc InterfaceFunc Global) (items n : List SExpr)
    → i < length xs → x ≡ get_or xs i x → x ≡ variant.Func r
    → items ++ map item_expr (filter is_import (map item_tree (drop i xs))) ≡ n
    → items ++ map item_expr (filter is_import (map item_tree (drop (i + 1) xs))) ≡ n
func-passed xs i x r items n l p q h =
    ap (λ k. items ++ map item_expr k) (sym (passed_next is_import item_tree xs i x l p (ap (λ y. is_import (item_tree y)) q))) ∙ h

pub func-shown : (xs : List ModuleDefinition) (i : ℕ) (x : ModuleDefinition) (r : Rc InterfaceFunc Global) (items : List code.SExpr) (e : code.SExpr) (n : List SExpr)
    → i < length xs → x ≡ get_or xs i x → x ≡ variant.Func r → expr_view e ≡ func_expr (func_tree r.value)
    → map expr_view items ++ map item_expr (filter is_func (map item_tree (drop i xs))) ≡ n
    → map expr_view (items ++ e ∷ []) ++ map item_expr (filter is_func (map item_tree (drop (i + 1) xs))) ≡ n
func-shown xs i x r items e n l p q v h =
    let rest = filter is_func (map item_tree (drop (i + 1) xs)) in
    one_more items e (func_expr (func_tree r.value)) (map item_expr rest) n v
    (ap (λ k. map expr_view items ++ map item_expr k)
    (sym (picked_next is_func item_tree xs i x l p (ap (λ y. is_func (item_tree y)) q) ∙ ap (λ y. item_tree y ∷ rest) q)) ∙ h)

pub import-passed : (xs : List ModuleDefinition) (i : ℕ) (x : ModuleDefinition) (r : Rc ModuleImport Global) (items n : List SExpr)
    → i < length xs → x ≡ get_or xs i x → x ≡ variant.Import r
    → items ++ map item_expr (filter is_func (map item_tree (drop i xs))) ≡ n
    → items ++ map item_expr (filter is_func (map item_tree (drop (i + 1) xs))) ≡ n
import-passed xs i x r items n l p q h =
    ap (λ k. items ++ map item_expr k) (sym (passed_next is_func item_tree xs i x l p (ap (λ y. is_func (item_tree y)) q))) ∙ h

pub imports-end : (xs : List ModuleDefinition) (i : ℕ) (items n : List SExpr) → length xs ≤ i
    → items ++ map item_expr (filter is_import (map item_tree (drop i xs))) ≡ n → items ≡ n
imports-end xs i items n l h = sym (append-nil items) ∙ ap (λ k. items ++ map item_expr k) (sym (picked_all is_import item_tree xs i l)) ∙ h

pub funcs-end : (xs : List ModuleDefinition) (i : ℕ) (items n : List SExpr) → length xs ≤ i
    → items ++ map item_expr (filter is_func (map item_tree (drop i xs))) ≡ n → items ≡ n
funcs-end xs i items n l h = sym (append-nil items) ∙ ap (λ k. items ++ map item_expr k) (sym (picked_all is_func item_tree xs i l)) ∙ h

-- an item at the end of a list, and none
pub one-pushed : (items : List code.SExpr) (e : code.SExpr) (v : SExpr) → expr_view e ≡ v → map expr_view (items ++ e ∷ []) ≡ map expr_view items ++ v ∷ []
one-pushed items e v h = map-append expr_view items (e ∷ []) ∙ ap (λ (x : SExpr). map expr_view items ++ x ∷ []) h

pub ruleset shown_rules = (next-shown, all-shown, import-shown, func-passed, func-shown, import-passed, imports-end, funcs-end, one-pushed, append-nil)
