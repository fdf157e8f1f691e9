use Rattle.std.proofs.Common.{arith}
use Rattle.witx_bytes.proofs.read.read_laid.Goals as goal

pub read_type-requires-clause-can : goal.read_type-requires-clause-can
read_type-requires-clause-can c = record { fit = c.requires.writable; size = c.requires.sized; end = omega (arith, c.requires.sized) }

pub read_type-requires-clause-known : goal.read_type-requires-clause-known
read_type-requires-clause-known c = c.requires.laid
