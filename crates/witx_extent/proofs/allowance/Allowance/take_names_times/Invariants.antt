use Rattle.std.proofs.Common.{◌≤◌}
use Rattle.witx_extent.proofs.allowance.Allowance.take_names_times.Given as goal

abbrev pub invariant-loop-tref : goal.invariant-loop-tref
invariant-loop-tref l = l.self.left ≤ l.initial.self.left
