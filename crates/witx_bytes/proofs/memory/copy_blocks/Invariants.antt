use Rattle.std.proofs.Common.{◌≡◌, ◌++◌}
use Rattle.witx_bytes.proofs.memory.copy_blocks.Given as goal

abbrev pub invariant-loop-number : goal.invariant-loop-number
invariant-loop-number l = l.made.entries ++ l.number-iterator ≡ l.initial.number-iterator
