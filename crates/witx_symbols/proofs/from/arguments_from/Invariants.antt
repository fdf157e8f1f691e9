use Rattle.std.proofs.Common.{◌≡◌, []}
use Rattle.witx_symbols.proofs.FromLemmas.{arguments_left}
use Rattle.witx_symbols.proofs.from.arguments_from.Given as goal

abbrev pub invariant-loop-i : goal.invariant-loop-i
invariant-loop-i l = arguments_left l.arguments.items l.params l.i ≡ arguments_left [] l.params 0
