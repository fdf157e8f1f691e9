use Rattle.std.proofs.Common.{◌≡◌, ◌+◌, ◌*◌, ◌≤◌, drop}
use Rattle.std.specs.List.{sum_by}
use Rattle.witx_sample.specs.Summaries.{size_in_bytes}
use Rattle.witx_sample.proofs.summaries.bytes_of.Given as goal

abbrev pub invariant-loop-layout : goal.invariant-loop-layout
invariant-loop-layout l = record {
  sum : l.total + sum_by size_in_bytes (drop l.layout-index l.layouts) ≡ sum_by size_in_bytes l.layouts;
  bounded : l.total ≤ 18446744073709551616 * l.layout-index;
}
