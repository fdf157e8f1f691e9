use Rattle.witx_traces.proofs.ReadBackEntries.{own-traces-back}
use Rattle.witx_traces.proofs.traces.own_traces_are_read_back.Goals as goal

pub returns : goal.returns
returns c = own-traces-back
