use Rattle.std.proofs.Common.{◌≡◌, ◌++◌, drop, map, string_bytes}
use Rattle.witx_ast.specs.Items.{item_tree}
use Rattle.witx_adapt.specs.Entries.{lowered}
use Rattle.witx_adapt.specs.Listings.{func_count, item_lines}
use Rattle.witx_adapt.proofs.listings.put_items.Given as goal

abbrev pub invariant-loop-item : goal.invariant-loop-item
invariant-loop-item l = record {
  lines : string_bytes l.text ++ item_lines (map item_tree (drop l.item-index l.items)) (map lowered l.rest) ≡ string_bytes l.initial.text ++ item_lines (map item_tree l.items) (map lowered l.functions);
  left : drop (func_count (map item_tree (drop l.item-index l.items))) l.rest ≡ drop (func_count (map item_tree l.items)) l.functions;
}
