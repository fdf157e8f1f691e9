use Rattle.std.proofs.Common.{◌≡◌}
use Rattle.witx_layout.proofs.Misfitting.{left_items}
use Rattle.witx_layout.proofs.tags.items_fit.Given as goal

abbrev pub invariant-loop-item : goal.invariant-loop-item
invariant-loop-item l = left_items l.items l.item-index ≡ left_items l.items 0
