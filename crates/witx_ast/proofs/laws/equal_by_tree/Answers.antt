use Rattle.witx_ast.proofs.Equal.{trefs-decide}
use Rattle.witx_ast.proofs.laws.equal_by_tree.Goals as goal

pub returns : goal.returns
returns c = trefs-decide _ _ _ c.eq.ensures
