-- The items that were pushed, in their order, are those of the module's expression.
use Rattle.std.proofs.Common.{rules, ◌∙◌, map}
use Rattle.witx_ast.specs.Definitions.{module_tree}
use Rattle.witx_render.specs.ExpressionViews.{expr_view}
use Rattle.witx_render.proofs.ModulesShown.{module-built}
use Rattle.witx_render.proofs.modules.bare_module.Goals as goal

pub returns : goal.returns
returns c =
    c.in_parentheses.ensures
    ∙ module-built (module_tree c.args.shown_module.now) (map expr_view c.in_ok-items.items) (map expr_view c.push_imports.new.items) (map expr_view c.push_funcs.new.items)
    (search rules) (search rules) (search rules)
