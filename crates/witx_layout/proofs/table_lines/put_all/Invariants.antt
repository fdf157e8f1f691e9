use Rattle.std.proofs.Common.{◌≡◌, ◌++◌, string_bytes}
use Rattle.witx_layout.proofs.Typenames.{left_text, left_sizes, AllFit, OneIsLarge}
use Rattle.witx_layout.proofs.Tabled.{Ahead, Tabled, Lined, passed, left}
use Rattle.witx_layout.proofs.table_lines.put_all.Given as goal

abbrev pub invariant-loop-definition : goal.invariant-loop-definition
invariant-loop-definition g l = record {
  ahead : Ahead (passed l.definitions l.definition-index) (left l.definitions l.definition-index);
  tabled : Tabled l.table (passed l.definitions l.definition-index);
  lined : Lined l.lines (passed l.definitions l.definition-index);
  text : string_bytes l.out ++ left_text l.definitions l.definition-index ≡ string_bytes l.initial.out ++ left_text l.definitions 0;
  fits : AllFit (left_sizes l.definitions l.definition-index) → AllFit (left_sizes l.definitions 0);
  large : OneIsLarge (left_sizes l.definitions l.definition-index) → OneIsLarge (left_sizes l.definitions 0);
}
