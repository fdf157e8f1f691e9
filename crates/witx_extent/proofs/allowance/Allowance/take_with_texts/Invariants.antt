use Rattle.std.proofs.Common.{◌≡◌, ◌+◌}
use Rattle.witx_ast.specs.Views.{tree_of}
use Rattle.witx_extent.specs.Extents.{extent}
use Rattle.witx_extent.specs.Waiting.{waiting_extent}
use Rattle.witx_extent.proofs.allowance.Allowance.take_with_texts.Given as goal

abbrev pub invariant-loop-next : goal.invariant-loop-next
invariant-loop-next l = l.self.left + extent (tree_of l.tref) ≡ l.initial.self.left + waiting_extent l.waiting.items

abbrev pub decreases-loop-next : goal.decreases-loop-next
decreases-loop-next l = l.self.left
