use Rattle.std.proofs.Common.{Some}
use Rattle.witx_bytes.specs.Bytes.{block_bytes, Filled}
use Rattle.witx_bytes.proofs.block.Block.fill.Given as goal

abbrev pub invariant-loop-j : goal.invariant-loop-j
invariant-loop-j l = Filled l.i l.j (Some 0) (block_bytes l.initial.self) (block_bytes l.self)
