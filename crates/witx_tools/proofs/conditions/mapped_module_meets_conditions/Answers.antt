use Rattle.witx_tools.proofs.Meeting.{module-met}
use Rattle.witx_tools.proofs.conditions.mapped_module_meets_conditions.Goals as goal

pub returns : goal.returns
returns c = module-met c.args.new.now c.args.old.now c.args.made.now c.requires
