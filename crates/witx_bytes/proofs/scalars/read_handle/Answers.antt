use Rattle.witx_bytes.specs.Bytes.{held}
use Rattle.witx_bytes.proofs.ReadNumbers.{handle_read}
use Rattle.witx_bytes.proofs.scalars.read_handle.Goals as goal

pub returns : goal.returns
returns c = handle_read (held c.args.memory.now) c.args.at c.in_ok-number.number c.in_ok-number.ensures
