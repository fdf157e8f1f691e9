use Rattle.std.proofs.Common.{◌≡◌}
use Rattle.witx_ast.proofs.HeldCopies.{list-equal}
use Rattle.witx_render.specs.ExpressionViews.{expr_view}
use Rattle.witx_render.specs.contracts.expression.SExprPartialEq.TheImpl as exprs
use Rattle.witx_render.proofs.ExpressionsEqual.{read-equal}
use Rattle.witx_render.proofs.laws.copied_expressions_are_equal.Goals as goal

pub returns-clause-expression : goal.returns-clause-expression
returns-clause-expression c = read-equal

pub returns-clause-list : goal.returns-clause-list
returns-clause-list c original copy h = list-equal exprs.ghosts.eq (λ e made. expr_view made ≡ expr_view e) read-equal original copy h
