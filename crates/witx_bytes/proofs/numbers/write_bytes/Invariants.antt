use Rattle.std.proofs.Common.{◌+◌}
use Rattle.witx_bytes.specs.Bytes.{held}
use Rattle.witx_bytes.proofs.Writing.{HeldLeft}
use Rattle.witx_bytes.proofs.numbers.write_bytes.Given as goal

abbrev pub invariant-loop-x : goal.invariant-loop-x
invariant-loop-x l = HeldLeft l.at (l.at + l.width) l.x l.rest l.number (held l.initial.memory) (held l.memory)
