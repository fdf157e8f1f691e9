use Rattle.std.proofs.Common.{arith}
use Rattle.std.proofs.lemmas.Grind.{common_steps}
use Rattle.witx_adapt.proofs.adapting.push_item.Goals as goal

pub returns-in_ok-push-in-Func-clause-functions : goal.returns-in_ok-push-in-Func-clause-functions
returns-in_ok-push-in-Func-clause-functions c = grind (arith, common_steps)
