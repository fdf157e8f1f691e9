-- The items that were pushed, in their order, are those of the function's expression.
use Rattle.std.proofs.Common.{rules, ◌∙◌, map}
use Rattle.witx_ast.specs.Functions.{func_tree}
use Rattle.witx_render.specs.ExpressionViews.{expr_view}
use Rattle.witx_render.proofs.ModulesShown.{func-built}
use Rattle.witx_render.proofs.functions.bare_func.Goals as goal

pub returns : goal.returns
returns c =
    c.in_parentheses.ensures
    ∙ func-built (func_tree c.args.func.now) (map expr_view c.in_ok-items.items) (map expr_view c.push_params.new.items) (map expr_view c.push_params-2.new.items) (map expr_view c.push_noreturn.new.items)
    (map expr_view c.push_stored.new.items) (search rules) (search rules) (search rules) (search rules) (search rules)
