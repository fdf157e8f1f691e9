use Rattle.witx_invoke.proofs.ReadFlags.{FlagsRead}
use Rattle.witx_invoke.proofs.flags.read_each.Given as goal

abbrev pub invariant-loop-i : goal.invariant-loop-i
invariant-loop-i l = FlagsRead l.count l.flags l.i l.fn.text l.rest
