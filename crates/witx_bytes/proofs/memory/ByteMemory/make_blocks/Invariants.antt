use Rattle.witx_bytes.proofs.Blocks.{MadeTo}
use Rattle.witx_bytes.proofs.memory.ByteMemory.make_blocks.Given as goal

abbrev pub invariant-loop-number : goal.invariant-loop-number
invariant-loop-number l = MadeTo l.first l.number l.initial.self l.self
