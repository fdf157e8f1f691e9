use Rattle.witx_ast.proofs.ValueLaws.{value-decides}
use Rattle.witx_ast.proofs.laws.value_test_is_exact.Goals as goal

pub returns : goal.returns
returns c = value-decides
