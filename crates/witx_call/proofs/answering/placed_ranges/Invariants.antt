use Rattle.std.proofs.Common.{◌≡◌, ◌++◌, drop, map}
use Rattle.witx_call.specs.CallSeen.{placed_of}
use Rattle.witx_call.specs.RangeViews.{taken_of}
use Rattle.witx_call.specs.Ranges.{ranges}
use Rattle.witx_call.proofs.answering.placed_ranges.Given as goal

abbrev pub invariant-loop-range : goal.invariant-loop-range
invariant-loop-range l = map placed_of l.made ++ ranges (taken_of (drop l.range-index l.ranges)) ≡ ranges (taken_of l.ranges)
