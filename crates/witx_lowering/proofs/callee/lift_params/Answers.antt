use Rattle.witx_instructions.proofs.Sides.{side_rules}
use Rattle.std.proofs.Common.{arith}
use Rattle.std.proofs.lemmas.Grind.{common_steps}
use Rattle.witx_lowering.proofs.callee.lift_params.Goals as goal

pub loop-param-preserved : goal.loop-param-preserved
loop-param-preserved c = grind (arith, common_steps)

pub returns-clause-events : goal.returns-clause-events
returns-clause-events c = grind (arith, side_rules)

pub returns-clause-words : goal.returns-clause-words
returns-clause-words c = grind (arith, common_steps)
