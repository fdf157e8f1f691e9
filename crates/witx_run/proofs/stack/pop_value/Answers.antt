use Rattle.std.proofs.Common.{arith}
use Rattle.std.proofs.lemmas.Grind.{common_steps}
use Rattle.witx_run.proofs.stack.pop_value.Goals as goal

pub returns-in-Some-Value : goal.returns-in-Some-Value
returns-in-Some-Value g c = grind (arith, common_steps)

pub returns-in-Some-Word : goal.returns-in-Some-Word
returns-in-Some-Word g c = grind (arith, common_steps)
