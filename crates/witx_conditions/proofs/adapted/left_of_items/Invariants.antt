use Rattle.witx_ast.specs.Items.{item_tree}
use Rattle.witx_adapt.specs.Listings.{func_count}
use Rattle.witx_conditions.proofs.Counting.{LeftAt}
use Rattle.witx_conditions.proofs.adapted.left_of_items.Given as goal

abbrev pub invariant-loop-item : goal.invariant-loop-item
invariant-loop-item l = record { left : LeftAt item_tree func_count l.items l.number l.item-index l.left }
