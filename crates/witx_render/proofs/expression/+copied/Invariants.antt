use Rattle.std.proofs.Common.{◌≡◌, map, take}
use Rattle.witx_render.specs.ExpressionViews.{expr_view}
use Rattle.witx_render.proofs.expression.+copied.Given as goal

-- what stands before is copied
abbrev pub invariant-copied_items-loop-item : goal.invariant-copied_items-loop-item
invariant-copied_items-loop-item l = map expr_view l.copies ≡ map expr_view (take l.item-index l.items)
