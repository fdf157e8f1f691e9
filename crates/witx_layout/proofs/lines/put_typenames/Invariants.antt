use Rattle.std.proofs.Common.{◌≡◌, ◌++◌, string_bytes}
use Rattle.witx_layout.proofs.Typenames.{left_text, left_sizes, AllFit, OneIsLarge}
use Rattle.witx_layout.proofs.lines.put_typenames.Given as goal

abbrev pub invariant-loop-definition : goal.invariant-loop-definition
invariant-loop-definition l = record {
  text : string_bytes l.out ++ left_text l.definitions l.definition-index ≡ string_bytes l.initial.out ++ left_text l.definitions 0;
  fits : AllFit (left_sizes l.definitions l.definition-index) → AllFit (left_sizes l.definitions 0);
  large : OneIsLarge (left_sizes l.definitions l.definition-index) → OneIsLarge (left_sizes l.definitions 0);
}
