use Rattle.std.proofs.Common.{arith}
use Rattle.std.proofs.lemmas.Grind.{common_steps}
use Rattle.witx_run.proofs.stack.tuple_lower.Goals as goal

pub returns-in_ok-push_all-in-Some-2 : goal.returns-in_ok-push_all-in-Some-2
returns-in_ok-push_all-in-Some-2 g c = grind (arith, common_steps)
