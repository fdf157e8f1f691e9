use Rattle.std.proofs.Common.{◌≡◌, ◌++◌, map, drop}
use Rattle.witx_call.specs.RangeViews.{range_of}
use Rattle.witx_call.proofs.giving.copy_ranges.Given as goal

abbrev pub invariant-loop-range : goal.invariant-loop-range
invariant-loop-range l = map range_of l.made.items ++ map range_of (drop l.range-index l.ranges) ≡ map range_of l.ranges
