use Rattle.std.proofs.Common.{◌≡◌, map, drop}
use Rattle.witx_ast.specs.Views.{tree_of}
use Rattle.witx_ast.specs.Definitions.{definition_tree}
use Rattle.witx_ast.specs.ErrorTypes.{all_errors}
use Rattle.witx_ast.specs.Seen.{TellsTypes, and_types}
use Rattle.witx_ast.proofs.errors.Found.add_all.Given as goal

abbrev pub invariant-loop-definition : goal.invariant-loop-definition
invariant-loop-definition l = record {
  told : TellsTypes l.self.seen l.self.types;
  left : and_types (map tree_of l.self.types) (all_errors (map definition_tree (drop l.definition-index l.definitions))) ≡ and_types (map tree_of l.initial.self.types) (all_errors (map definition_tree l.definitions));
}
