use Rattle.witx_bytes.specs.Bytes.{block_bytes}
use Rattle.witx_bytes.proofs.Ranges.{StandTo}
use Rattle.witx_bytes.proofs.block.all_stand.Given as goal

abbrev pub invariant-loop-byte : goal.invariant-loop-byte
invariant-loop-byte l = StandTo l.wanted 0 l.byte-index (block_bytes l.run)
