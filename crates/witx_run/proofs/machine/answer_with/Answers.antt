use Rattle.std.proofs.Common.{arith}
use Rattle.std.proofs.lemmas.Grind.{common_steps}
use Rattle.witx_run.proofs.machine.answer_with.Goals as goal

pub returns-then-is_empty-2-clause-performs : goal.returns-then-is_empty-2-clause-performs
returns-then-is_empty-2-clause-performs g c = grind (arith, common_steps)
