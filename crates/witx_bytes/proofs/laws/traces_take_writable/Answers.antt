use Rattle.witx_bytes.proofs.TracesOverBytes.{take_writable}
use Rattle.witx_bytes.proofs.laws.traces_take_writable.Goals as goal

pub returns : goal.returns
returns c = take_writable
