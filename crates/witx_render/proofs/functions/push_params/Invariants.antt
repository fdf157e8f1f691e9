use Rattle.std.proofs.Common.{◌≡◌, map, drop, ◌++◌}
use Rattle.witx_ast.specs.Functions.{param_field}
use Rattle.witx_render.specs.ExpressionViews.{expr_view}
use Rattle.witx_render.specs.ModuleExpressions.{param_expr}
use Rattle.witx_render.proofs.functions.push_params.Given as goal

abbrev pub invariant-loop-param : goal.invariant-loop-param
invariant-loop-param l =
    map expr_view l.items ++ map (param_expr l.text) (map param_field (drop l.param-index l.params))
    ≡ map expr_view l.initial.items ++ map (param_expr l.text) (map param_field l.params)
