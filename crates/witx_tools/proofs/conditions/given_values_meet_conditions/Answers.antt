use Rattle.witx_tools.proofs.Meeting.{given-run}
use Rattle.witx_tools.proofs.conditions.given_values_meet_conditions.Goals as goal

pub returns : goal.returns
returns c = given-run c.args.entry.now c.args.lines.now c.args.given.now c.requires.callable c.requires.given
