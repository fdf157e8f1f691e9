use Rattle.witx_tools.proofs.ToldShims.{shims-tell-two-refusals}
use Rattle.witx_tools.proofs.laws.shims_tell_two_refusals.Goals as goal

pub returns : goal.returns
returns c = shims-tell-two-refusals c.one_reading.ensures
