use Rattle.std.proofs.Common.{arith}
use Rattle.std.proofs.lemmas.Grind.{common_steps}
use Rattle.witx_run.proofs.stack.store.Goals as goal

pub returns-in-Some-pop_value : goal.returns-in-Some-pop_value
returns-in-Some-pop_value g c = grind (arith, common_steps)
