use Rattle.std.proofs.Common.{◌≡◌, map, drop, ◌++◌}
use Rattle.std.specs.Prelude.{filter}
use Rattle.witx_ast.specs.Items.{item_tree}
use Rattle.witx_render.specs.ExpressionViews.{expr_view}
use Rattle.witx_render.specs.ModuleExpressions.{item_expr, is_import}
use Rattle.witx_render.proofs.modules.push_imports.Given as goal

abbrev pub invariant-loop-definition : goal.invariant-loop-definition
invariant-loop-definition l =
    map expr_view l.items ++ map item_expr (filter is_import (map item_tree (drop l.definition-index l.definitions)))
    ≡ map expr_view l.initial.items ++ map item_expr (filter is_import (map item_tree l.definitions))
