-- The text of a document: each typename, and then each module, on a line of its own. Constants are not printed.
use Rattle.std.specs.Prelude.{ℕ, Bool, true, false, List, [], ◌∷◌, ◌++◌, map, filter, codes}
use Rattle.witx_ast.specs.Tree.{Tree}
use Rattle.witx_ast.specs.Definitions.{DefinitionTree, typename_of, module_of, constant_of}
use Rattle.witx_render.specs.Expressions.{SExpr, vec, nil, with_docs, text_of}
use Rattle.witx_render.specs.TypeExpressions.{type_expr, named_expr}
use Rattle.witx_render.specs.ModuleExpressions.{module_expr}

abbrev pub typename_expr : List ℕ → Tree → List ℕ → SExpr
typename_expr n t d = with_docs d (named_expr (codes "typename") n (type_expr t))

-- of a constant none is ever asked for
abbrev pub definition_expr : DefinitionTree → SExpr
definition_expr (typename_of n t d) = typename_expr n t d
definition_expr (module_of m) = module_expr m
definition_expr (constant_of c) = vec nil

abbrev pub is_typename : DefinitionTree → Bool
is_typename (typename_of n t d) = true
is_typename (module_of m) = false
is_typename (constant_of c) = false

abbrev pub is_module : DefinitionTree → Bool
is_module (typename_of n t d) = false
is_module (module_of m) = true
is_module (constant_of c) = false

-- the typenames, and then the modules
abbrev pub typenames_first : List DefinitionTree → List DefinitionTree
typenames_first ds = filter is_typename ds ++ filter is_module ds

abbrev pub document_exprs : List DefinitionTree → List SExpr
document_exprs ds = map definition_expr (typenames_first ds)

-- each expression, and a line feed
abbrev pub expression_lines : List SExpr → List ℕ
expression_lines [] = []
expression_lines (e ∷ es) = text_of e ++ 10 ∷ expression_lines es

unfoldable pub document_text : List DefinitionTree → List ℕ
document_text ds = expression_lines (document_exprs ds)
