use Rattle.std.proofs.Common.{arith}
use Rattle.std.proofs.lemmas.Grind.{common_steps}
use Rattle.witx_compat.proofs.Gathering.{module_rules}
use Rattle.witx_compat.proofs.modules.Polyfill.new.Goals as goal

pub loop-new_name-preserved : goal.loop-new_name-preserved
loop-new_name-preserved c = grind (arith, common_steps, module_rules)
