use Rattle.witx_bytes.proofs.FlagBits.{FlagsFrom}
use Rattle.witx_bytes.proofs.numbers.flag_bits.Given as goal

abbrev pub invariant-loop-i : goal.invariant-loop-i
invariant-loop-i l = FlagsFrom l.flags l.i l.bits

abbrev pub decreases-loop-i : goal.decreases-loop-i
decreases-loop-i l = l.i
