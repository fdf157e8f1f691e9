use Rattle.witx_traces.proofs.UnfitLines.{no-unfit}
use Rattle.witx_traces.proofs.traces.traces_leave_no_line_unfit.Goals as goal

pub returns : goal.returns
returns c = no-unfit
