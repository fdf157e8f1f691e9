use Rattle.std.proofs.Common.{◌≡◌, ◌-◌, ◌++◌}
use Rattle.witx_header.specs.Bodies.{numbered_variables}
use Rattle.witx_header.proofs.body.push_numbered.Given as goal

abbrev pub invariant-loop-number : goal.invariant-loop-number
invariant-loop-number l = l.results.items ++ numbered_variables l.number (l.next - l.number) ≡ numbered_variables l.first (l.next - l.first)
