use Rattle.std.proofs.Common.{◌∷◌, length}
use Rattle.witx_markdown.specs.Trees.{order_from}
use Rattle.witx_markdown.proofs.Descent.{IsAhead, ahead_order}
use Rattle.witx_markdown.proofs.kin.Kin.nodes_from.Given as goal

abbrev pub invariant-loop-next : goal.invariant-loop-next
invariant-loop-next l = IsAhead l.self l.numbers l.ahead.items (l.node ∷ order_from 0 l.self l.node)

abbrev pub decreases-loop-next : goal.decreases-loop-next
decreases-loop-next l = length (ahead_order l.self l.ahead.items)
