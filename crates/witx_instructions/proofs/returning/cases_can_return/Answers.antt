use Rattle.witx_instructions.proofs.Results.{lowerable_rules}
use Rattle.witx_ast.proofs.TreeKinds.{kind_rules}
use Rattle.std.proofs.Common.{arith}
use Rattle.witx_instructions.proofs.returning.cases_can_return.Goals as goal

pub returns-then-can_be_ok : goal.returns-then-can_be_ok
returns-then-can_be_ok c = grind (arith, kind_rules, lowerable_rules)

pub returns-else-can_be_ok : goal.returns-else-can_be_ok
returns-else-can_be_ok c = grind (arith, kind_rules, lowerable_rules)
