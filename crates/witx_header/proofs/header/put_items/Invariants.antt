use Rattle.std.proofs.Common.{◌≡◌, ◌++◌, drop, map, string_bytes}
use Rattle.std.specs.List.{flat_map}
use Rattle.witx_ast.specs.Items.{item_tree}
use Rattle.witx_header.specs.Headers.{c_item_lines}
use Rattle.witx_header.proofs.header.put_items.Given as goal

abbrev pub invariant-loop-item : goal.invariant-loop-item
invariant-loop-item l =
    string_bytes l.text ++ flat_map (c_item_lines l.owner) (map item_tree (drop l.item-index l.items)) ≡ string_bytes l.initial.text ++ flat_map (c_item_lines l.owner) (map item_tree l.items)
