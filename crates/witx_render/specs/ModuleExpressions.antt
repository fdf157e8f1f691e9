-- The expressions that imports, functions and modules are printed as.
-- A function's parameters stand before its results, then `(@witx noreturn)` if it never returns, then `(@witx stored)` if its
-- whole result is stored; a module's imports stand before its functions.
use Rattle.std.specs.Prelude.{ℕ, Bool, true, false, not, List, [], ◌∷◌, ◌++◌, filter, codes}
use Rattle.witx_ast.specs.declared.function.Abi.{Abi}
use Rattle.witx_ast.specs.declared.module.ModuleImport.{ModuleImport}
use Rattle.witx_ast.specs.Tree.{Field}
use Rattle.witx_ast.specs.Functions.{FunctionTree}
use Rattle.witx_ast.specs.Items.{ItemTree, import_of, func_of}
use Rattle.witx_ast.specs.Definitions.{ModuleTree}
use Rattle.witx_render.specs.Expressions.{SExpr, vec, word, ident, quote, annot, SExprs, nil, ◌▹◌, exprs_of, with_docs}
use Rattle.witx_render.specs.TypeExpressions.{type_expr, named_expr, witx_expr}

-- a parameter or a result, by its word
abbrev pub param_expr : List ℕ → Field → SExpr
param_expr w p = with_docs p.comment (named_expr w p.called (type_expr p.tree))

-- in front of other expressions
abbrev pub param_exprs : List ℕ → List Field → SExprs → SExprs
param_exprs w [] more = more
param_exprs w (p ∷ ps) more = param_expr w p ▹ param_exprs w ps more

abbrev pub noreturn_mark : Bool → List SExpr
noreturn_mark true = witx_expr (codes "noreturn") ∷ []
noreturn_mark false = []

abbrev pub stored_expressions : Abi → List SExpr
stored_expressions Abi.Preview1 = []
stored_expressions Abi.Stored = witx_expr (codes "stored") ∷ []

-- what follows a function's results
abbrev pub marks : FunctionTree → SExprs
marks f = exprs_of (noreturn_mark f.noreturn ++ stored_expressions f.abi)

abbrev pub export_expr : List ℕ → SExpr
export_expr name = vec (word (codes "export") ▹ quote name ▹ nil)

abbrev pub func_parts : FunctionTree → SExprs
func_parts f = annot (codes "interface") ▹ word (codes "func") ▹ export_expr f.name
    ▹ param_exprs (codes "param") f.params (param_exprs (codes "result") f.results (marks f))

abbrev pub func_expr : FunctionTree → SExpr
func_expr f = with_docs f.comment (vec (func_parts f))

abbrev pub import_expr : ModuleImport → SExpr
import_expr i = with_docs i.docs (vec (word (codes "import") ▹ quote i.name ▹ vec (word (codes "memory") ▹ nil) ▹ nil))

abbrev pub item_expr : ItemTree → SExpr
item_expr (import_of i) = import_expr i
item_expr (func_of f) = func_expr f

abbrev pub item_exprs : List ItemTree → SExprs
item_exprs [] = nil
item_exprs (i ∷ is) = item_expr i ▹ item_exprs is

abbrev pub is_import : ItemTree → Bool
is_import (import_of i) = true
is_import (func_of f) = false

abbrev pub is_func : ItemTree → Bool
is_func i = not (is_import i)

-- the imports, and then the functions
abbrev pub items_in_order : List ItemTree → List ItemTree
items_in_order is = filter is_import is ++ filter is_func is

abbrev pub module_expressions : ModuleTree → SExprs
module_expressions m = word (codes "module") ▹ ident m.name ▹ item_exprs (items_in_order m.items)

abbrev pub module_expr : ModuleTree → SExpr
module_expr m = with_docs m.comment (vec (module_expressions m))
