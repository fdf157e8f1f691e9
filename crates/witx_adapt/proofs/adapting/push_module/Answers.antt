use Rattle.std.proofs.Common.{arith}
use Rattle.std.proofs.lemmas.Grind.{common_steps}
use Rattle.witx_adapt.proofs.adapting.push_module.Goals as goal

pub returns-in_err-push_item-clause-unlowerable : goal.returns-in_err-push_item-clause-unlowerable
returns-in_err-push_item-clause-unlowerable c = grind (arith, common_steps)

pub loop-item-preserved : goal.loop-item-preserved
loop-item-preserved c = grind (arith, common_steps)

pub returns-clause-functions : goal.returns-clause-functions
returns-clause-functions c = grind (arith, common_steps)

pub returns-clause-lowerable : goal.returns-clause-lowerable
returns-clause-lowerable c = grind (arith, common_steps)
