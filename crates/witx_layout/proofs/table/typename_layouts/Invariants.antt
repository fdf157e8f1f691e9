use Rattle.std.proofs.Common.{◌≡◌, ◌≤◌, ◌+◌, ◌++◌}
use Rattle.witx_layout.specs.Nodes.{typename_node_count, typename_count}
use Rattle.witx_layout.proofs.Tabled.{Ahead, Tabled, passed, left, left_large, left_layouts}
use Rattle.witx_layout.proofs.table.typename_layouts.Given as goal

abbrev pub invariant-loop-number : goal.invariant-loop-number
invariant-loop-number g l = record {
  ahead : Ahead (passed l.definitions l.number) (left l.definitions l.number);
  tabled : Tabled l.table (passed l.definitions l.number);
  layouts : l.layouts ++ left_layouts l.definitions l.number ≡ left_layouts l.definitions 0;
  sizes : left_large l.definitions l.number ≡ left_large l.definitions 0;
  most : l.steps + typename_node_count (left l.definitions l.number) ≤ l.initial.steps + typename_node_count (left l.definitions 0);
  least : l.initial.steps + typename_count (left l.definitions 0) ≤ l.steps + typename_count (left l.definitions l.number);
}
