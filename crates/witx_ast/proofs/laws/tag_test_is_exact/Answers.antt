use Rattle.witx_ast.proofs.TagLaws.{function-decides}
use Rattle.witx_ast.proofs.laws.tag_test_is_exact.Goals as goal

pub returns : goal.returns
returns c = function-decides
