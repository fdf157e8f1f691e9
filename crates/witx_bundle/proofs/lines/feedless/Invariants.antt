use Rattle.std.proofs.Common.{◌≡◌, ◌≤◌, ◌-◌, length, take, false, ◌==◌}
use Rattle.std.specs.List.{list_any}
use Rattle.witx_bundle.proofs.lines.feedless.Given as goal

abbrev pub invariant-loop-start : goal.invariant-loop-start
invariant-loop-start l = (l.start ≤ length l.bytes) × list_any (λ byte. byte == 10) (take l.start l.bytes) ≡ false

abbrev pub decreases-loop-start : goal.decreases-loop-start
decreases-loop-start l = length l.bytes - l.start
