use Rattle.witx_traces.proofs.UnfitLines.{one-unfit}
use Rattle.witx_traces.proofs.traces.at_most_one_line_is_unfit.Goals as goal

pub returns : goal.returns
returns c = one-unfit
