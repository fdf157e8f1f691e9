use Rattle.witx_instructions.proofs.Handing.{ended-in-order, refused-in-order}
use Rattle.witx_instructions.proofs.plan.finish.Goals as goal

pub returns-clause-operands : goal.returns-clause-operands
returns-clause-operands g c = ended-in-order _ _ _ _ _ _ c.finish_block.ensures.call c.pop-operand.ensures.items (c.pop-operand.ensures.variant.1 c.requires)

pub returns-clause-front_operands : goal.returns-clause-front_operands
returns-clause-front_operands g c = refused-in-order _ _ _ _ _ _ c.finish_block.ensures.call
