use Rattle.std.proofs.Common.{◌+◌}
use Rattle.witx_bytes.specs.Bytes.{block_bytes}
use Rattle.witx_bytes.proofs.Writing.{NumberLeft}
use Rattle.witx_bytes.proofs.block.Block.write.Given as goal

abbrev pub invariant-loop-j : goal.invariant-loop-j
invariant-loop-j l = NumberLeft l.i (l.i + l.width) l.j l.rest l.number (block_bytes l.initial.self) (block_bytes l.self)
