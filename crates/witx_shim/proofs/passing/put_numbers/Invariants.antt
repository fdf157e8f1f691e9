use Rattle.std.proofs.Common.{◌≡◌, ◌++◌, ◌-◌}
use Rattle.witx_machine.specs.Run.{numbers}
use Rattle.witx_shim.proofs.passing.put_numbers.Given as goal

abbrev pub invariant-loop-i : goal.invariant-loop-i
invariant-loop-i l = l.pass ++ numbers l.i (l.end - l.i) ≡ l.initial.pass ++ numbers l.first (l.end - l.first)
