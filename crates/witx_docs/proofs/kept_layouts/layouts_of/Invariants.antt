use Rattle.witx_layout.proofs.Tabled.{Ahead, Tabled, passed, left}
use Rattle.witx_docs.proofs.kept_layouts.layouts_of.Given as goal

abbrev pub invariant-loop-definition : goal.invariant-loop-definition
invariant-loop-definition l = record {
  ahead : Ahead (passed l.definitions l.definition-index) (left l.definitions l.definition-index);
  tabled : Tabled l.table (passed l.definitions l.definition-index);
}
