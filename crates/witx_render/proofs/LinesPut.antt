-- The lines that a loop over definitions has put, with those still to come, are all lines of the kind; the two kinds are the text.
use Rattle.std.specs.Prelude.{◌≡◌, ℕ, ◌+◌, ◌<◌, ◌≤◌, true, false, List, [], ◌∷◌, ◌++◌, length, drop, map, filter, codes}
use Rattle.std.proofs.Common.{get_or, refl, sym, ap, ◌∙◌, append_assoc, append-nil}
use Rattle.std.proofs.lemmas.List.{map-append}
use Rattle.std.specs.declared.alloc.Global.{Global}
use Rattle.std.specs.declared.rc.Rc.{Rc}
use Rattle.witx_ast.specs.declared.types.NamedType.{NamedType}
use Rattle.witx_ast.specs.declared.module.Module.{Module}
use Rattle.witx_ast.specs.declared.definition.Constant.{Constant}
use Rattle.witx_ast.specs.declared.definition.Definition.{Definition}
use Rattle.witx_ast.specs.declared.definition.Definition.TheVariants as variant
use Rattle.witx_ast.specs.Views.{tree_of}
use Rattle.witx_ast.specs.Definitions.{DefinitionTree, definition_tree, module_tree}
use Rattle.witx_render.specs.Expressions.{SExpr, text_of}
use Rattle.witx_render.specs.ModuleExpressions.{module_expr}
use Rattle.witx_render.specs.DocumentTexts.{typename_expr, definition_expr, is_typename, is_module, expression_lines, document_text}
use Rattle.witx_render.specs.Lists.{lines_where}
use Rattle.witx_render.proofs.ItemsBuilt.{picked_next, passed_next, picked_all}

-- a line that is put, and the lines that follow
line_put : (done line more total now : List ℕ) → now ≡ done ++ (line ++ codes "\n") → done ++ (line ++ 10 ∷ more) ≡ total → now ++ more ≡ total
line_put done line more total now p e =
    ap (λ (s : List ℕ). s ++ more) p
    ∙ append_assoc done (line ++ codes "\n") more
    ∙ ap (λ (s : List ℕ). done ++ s) (append_assoc line (codes "\n") more)
    ∙ e

pub typename-put : (xs : List Definition) (i : ℕ) (x : Definition) (r : Rc NamedType Global) (done now total : List ℕ)
    → i < length xs → x ≡ get_or xs i x → x ≡ variant.Typename r
    → now ≡ done ++ (text_of (typename_expr r.value.name (tree_of r.value.tref) r.value.docs) ++ codes "\n")
    → done ++ lines_where is_typename (map definition_tree (drop i xs)) ≡ total
    → now ++ lines_where is_typename (map definition_tree (drop (i + 1) xs)) ≡ total
typename-put xs i x r done now total l p q w e =
    let rest = filter is_typename (map definition_tree (drop (i + 1) xs)) in
    line_put done (text_of (typename_expr r.value.name (tree_of r.value.tref) r.value.docs)) (expression_lines (map definition_expr rest)) total now w
    (ap (λ ds. done ++ expression_lines (map definition_expr ds))
    (sym (picked_next is_typename definition_tree xs i x l p (ap (λ y. is_typename (definition_tree y)) q) ∙ ap (λ y. definition_tree y ∷ rest) q)) ∙ e)

pub module-put : (xs : List Definition) (i : ℕ) (x : Definition) (r : Rc Module Global) (done now total : List ℕ)
    → i < length xs → x ≡ get_or xs i x → x ≡ variant.Module r
    → now ≡ done ++ (text_of (module_expr (module_tree r.value)) ++ codes "\n")
    → done ++ lines_where is_module (map definition_tree (drop i xs)) ≡ total
    → now ++ lines_where is_module (map definition_tree (drop (i + 1) xs)) ≡ total
module-put xs i x r done now total l p q w e =
    let rest = filter is_module (map definition_tree (drop (i + 1) xs)) in
    line_put done (text_of (module_expr (module_tree r.value))) (expression_lines (map definition_expr rest)) total now w
    (ap (λ ds. done ++ expression_lines (map definition_expr ds))
    (sym (picked_next is_module definition_tree xs i x l p (ap (λ y. is_module (definition_tree y)) q) ∙ ap (λ y. definition_tree y ∷ rest) q)) ∙ e)

pub module-passed : (xs : List Definition) (i : ℕ) (x : Definition) (r : Rc Module Global) (done total : List ℕ)
    → i < length xs → x ≡ get_or xs i x → x ≡ variant.Module r
    → done ++ lines_where is_typename (map definition_tree (drop i xs)) ≡ total
    → done ++ lines_where is_typename (map definition_tree (drop (i + 1) xs)) ≡ total
module-passed xs i x r done total l p q e =
    ap (λ ds. done ++ expression_lines (map definition_expr ds)) (sym (passed_next is_typename definition_tree xs i x l p (ap (λ y. is_typename (definition_tree y)) q))) ∙ e

pub constant-passed : (xs : List Definition) (i : ℕ) (x : Definition) (c : Constant) (done total : List ℕ)
    → i < length xs → x ≡ get_or xs i x → x ≡ variant.Constant c
    → done ++ lines_where is_typename (map definition_tree (drop i xs)) ≡ total
    → done ++ lines_where is_typename (map definition_tree (drop (i + 1) xs)) ≡ total
constant-passed xs i x c done total l p q e =
    ap (λ ds. done ++ expression_lines (map definition_expr ds)) (sym (passed_next is_typename definition_tree xs i x l p (ap (λ y. is_typename (definition_tree y)) q))) ∙ e

pub typename-skipped : (xs : List Definition) (i : ℕ) (x : Definition) (r : Rc NamedType Global) (done total : List ℕ)
    → i < length xs → x ≡ get_or xs i x → x ≡ variant.Typename r
    → done ++ lines_where is_module (map definition_tree (drop i xs)) ≡ total
    → done ++ lines_where is_module (map definition_tree (drop (i + 1) xs)) ≡ total
typename-skipped xs i x r done total l p q e =
    ap (λ ds. done ++ expression_lines (map definition_expr ds)) (sym (passed_next is_module definition_tree xs i x l p (ap (λ y. is_module (definition_tree y)) q))) ∙ e

pub constant-skipped : (xs : List Definition) (i : ℕ) (x : Definition) (c : Constant) (done total : List ℕ)
    → i < length xs → x ≡ get_or xs i x → x ≡ variant.Constant c
    → done ++ lines_where is_module (map definition_tree (drop i xs)) ≡ total
    → done ++ lines_where is_module (map definition_tree (drop (i + 1) xs)) ≡ total
constant-skipped xs i x c done total l p q e =
    ap (λ ds. done ++ expression_lines (map definition_expr ds)) (sym (passed_next is_module definition_tree xs i x l p (ap (λ y. is_module (definition_tree y)) q))) ∙ e

pub typenames-end : (xs : List Definition) (i : ℕ) (done total : List ℕ) → length xs ≤ i
    → done ++ lines_where is_typename (map definition_tree (drop i xs)) ≡ total → done ≡ total
typenames-end xs i done total l e =
    sym (append-nil done) ∙ ap (λ ds. done ++ expression_lines (map definition_expr ds)) (sym (picked_all is_typename definition_tree xs i l)) ∙ e

pub modules-end : (xs : List Definition) (i : ℕ) (done total : List ℕ) → length xs ≤ i
    → done ++ lines_where is_module (map definition_tree (drop i xs)) ≡ total → done ≡ total
modules-end xs i done total l e =
    sym (append-nil done) ∙ ap (λ ds. done ++ expression_lines (map definition_expr ds)) (sym (picked_all is_module definition_tree xs i l)) ∙ e

pub lines_more : (es fs : List SExpr) → expression_lines (es ++ fs) ≡ expression_lines es ++ expression_lines fs
lines_more [] fs = refl
lines_more (e ∷ es) fs =
    ap (λ (l : List ℕ). text_of e ++ 10 ∷ l) (lines_more es fs)
    ∙ sym (append_assoc (text_of e) (10 ∷ expression_lines es) (expression_lines fs))

-- first the typenames, then the modules
pub both-put : (ds : List DefinitionTree) (typenames whole : List ℕ)
    → typenames ≡ lines_where is_typename ds → whole ≡ typenames ++ lines_where is_module ds → whole ≡ document_text ds
unfolding document_text
both-put ds typenames whole t w =
    w ∙ ap (λ (s : List ℕ). s ++ lines_where is_module ds) t
    ∙ sym (ap expression_lines (map-append definition_expr (filter is_typename ds) (filter is_module ds))
    ∙ lines_more (map definition_expr (filter is_typename ds)) (map definition_expr (filter is_module ds)))

pub ruleset put_rules = (typename-put, module-put, module-passed, constant-passed, typename-skipped, constant-skipped, typenames-end, modules-end, both-put)
