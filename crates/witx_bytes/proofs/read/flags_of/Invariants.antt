use Rattle.witx_bytes.proofs.ReadFlags.{FlagsLeft}
use Rattle.witx_bytes.proofs.read.flags_of.Given as goal

abbrev pub invariant-loop-made : goal.invariant-loop-made
invariant-loop-made l = FlagsLeft l.count l._made l.bits l.rest l.flags
