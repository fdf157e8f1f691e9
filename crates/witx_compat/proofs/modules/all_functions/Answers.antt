use Rattle.std.proofs.Common.{rules, arith}
use Rattle.std.proofs.lemmas.Grind.{common_steps}
use Rattle.witx_compat.proofs.Gathering.{module_rules}
use Rattle.witx_compat.proofs.modules.all_functions.Goals as goal

pub loop-item-preserved : goal.loop-item-preserved
loop-item-preserved c = grind (arith, common_steps, module_rules)

pub returns : goal.returns
returns c = search (rules, module_rules)

pub returns-in_err-put_function : goal.returns-in_err-put_function
returns-in_err-put_function c = grind (arith, common_steps, module_rules)
