use Rattle.witx_ast.proofs.HeldCopies.{list-equal}
use Rattle.witx_ast.proofs.copy_laws.copied_lists_are_equal.Goals as goal

pub returns : goal.returns
returns g c equal original copy h = list-equal g.T.PartialEq.eq g.T.Duplicate.is_copy equal original copy h
