use Rattle.std.proofs.Common.{◌≡◌, map, drop}
use Rattle.witx_ast.specs.Views.{tree_of}
use Rattle.witx_ast.specs.Items.{item_tree}
use Rattle.witx_ast.specs.ErrorTypes.{item_errors}
use Rattle.witx_ast.specs.Seen.{TellsTypes, and_types}
use Rattle.witx_ast.proofs.errors.Found.add_items.Given as goal

abbrev pub invariant-loop-item : goal.invariant-loop-item
invariant-loop-item l = record {
  told : TellsTypes l.self.seen l.self.types;
  left : and_types (map tree_of l.self.types) (item_errors (map item_tree (drop l.item-index l.items))) ≡ and_types (map tree_of l.initial.self.types) (item_errors (map item_tree l.items));
}
