use Rattle.std.proofs.Common.{◌≡◌}
use Rattle.witx_layout.proofs.Misfitting.{left_definitions}
use Rattle.witx_layout.proofs.tags.definitions_fit.Given as goal

abbrev pub invariant-loop-number : goal.invariant-loop-number
invariant-loop-number l = left_definitions l.definitions l.number ≡ left_definitions l.definitions 0
