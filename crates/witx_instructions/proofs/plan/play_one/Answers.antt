use Rattle.witx_instructions.proofs.Handing.{refused-in-order}
use Rattle.witx_instructions.proofs.plan.play_one.Goals as goal

pub returns-in-Space-clause-front_operands : goal.returns-in-Space-clause-front_operands
returns-in-Space-clause-front_operands g c = refused-in-order _ _ _ _ _ _ c.allocate_space.ensures.call

pub returns-in-Push-clause-front_operands : goal.returns-in-Push-clause-front_operands
returns-in-Push-clause-front_operands g c = refused-in-order _ _ _ _ _ _ c.push_block.ensures.call

pub returns-in-Finish-false-clause-front_operands : goal.returns-in-Finish-false-clause-front_operands
returns-in-Finish-false-clause-front_operands g c = refused-in-order _ _ _ _ _ _ c.finish_block.ensures.call
