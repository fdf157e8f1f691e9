use Rattle.std.proofs.Common.{arith}
use Rattle.std.proofs.lemmas.Grind.{common_steps}
use Rattle.witx_run.proofs.calls.only_words.Goals as goal

pub loop-item-preserved : goal.loop-item-preserved
loop-item-preserved g c = grind (arith, common_steps)

pub returns-in_default : goal.returns-in_default
returns-in_default g c = grind (arith, common_steps)

pub returns : goal.returns
returns g c = grind (arith, common_steps)
