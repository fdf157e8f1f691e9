use Rattle.std.proofs.Common.{◌≡◌, ◌++◌, drop, map, string_bytes}
use Rattle.std.specs.List.{flat_map}
use Rattle.witx_ast.specs.Definitions.{definition_tree}
use Rattle.witx_header.specs.Headers.{c_definition_lines}
use Rattle.witx_header.proofs.Numbered.{AllFit, OneIsLarge, numbers_from}
use Rattle.witx_header.proofs.header.put_definitions.Given as goal

abbrev pub invariant-loop-definition : goal.invariant-loop-definition
invariant-loop-definition l = record {
  text : string_bytes l.text ++ flat_map c_definition_lines (map definition_tree (drop l.definition-index l.definitions))
      ≡ string_bytes l.initial.text ++ flat_map c_definition_lines (map definition_tree l.definitions);
  fits : AllFit (numbers_from l.definitions l.definition-index) → AllFit (numbers_from l.definitions 0);
  large : OneIsLarge (numbers_from l.definitions l.definition-index) → OneIsLarge (numbers_from l.definitions 0);
}
