use Rattle.witx_ast.proofs.AlikeLaws.{alike-decides}
use Rattle.witx_ast.proofs.laws.alike_test_is_exact.Goals as goal

pub returns : goal.returns
returns c = alike-decides
