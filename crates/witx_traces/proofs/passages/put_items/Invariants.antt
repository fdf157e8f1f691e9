use Rattle.std.proofs.Common.{◌≡◌, drop, map}
use Rattle.witx_ast.specs.Items.{item_tree}
use Rattle.witx_adapt.specs.Listings.{func_count}
use Rattle.witx_traces.specs.Passages.{draft_of, put_items}
use Rattle.witx_traces.specs.Traces.{offered}
use Rattle.witx_traces.proofs.passages.put_items.Given as goal

abbrev pub invariant-loop-item : goal.invariant-loop-item
invariant-loop-item l = record {
  put : put_items (map item_tree (drop l.item-index l.items)) (map offered l.rest) (draft_of l.draft) ≡ put_items (map item_tree l.items) (map offered l.functions) (draft_of l.initial.draft);
  left : drop (func_count (map item_tree (drop l.item-index l.items))) l.rest ≡ drop (func_count (map item_tree l.items)) l.functions;
}
