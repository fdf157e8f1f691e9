use Rattle.witx_bytes.proofs.TracesOverBytes.{traces_over_bytes}
use Rattle.witx_bytes.proofs.laws.traces_run_over_bytes.Goals as goal

pub returns : goal.returns
returns c = traces_over_bytes
