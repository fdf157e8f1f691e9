-- Parameters and results, as their syntax means them.
use Rattle.std.specs.Prelude.{◌≡◌, List, map}
use Rattle.witx_comments.specs.declared.comment.Documented.{Documented}
use Rattle.witx_syntax_tree.specs.declared.tree.FieldSyntax.{FieldSyntax}
use Rattle.witx_syntax_tree.specs.Views.{fields_view}
use Rattle.witx_ast.specs.declared.function.InterfaceFuncParam.{InterfaceFuncParam}
use Rattle.witx_ast.specs.Functions.{param_field}
use Rattle.witx_scope.specs.declared.scope.Scope.{Scope}
use Rattle.witx_scope.specs.Senses.{here_of}
use Rattle.witx_scope.specs.Trees.{fields_meant}

-- parameters, or results, are what these fields mean in a scope
abbrev pub AreParams : Scope → List (Documented FieldSyntax) → List InterfaceFuncParam → Type 0
AreParams scope fields params = map param_field params ≡ fields_meant (here_of scope) (fields_view fields)
