use Rattle.witx_markdown.specs.Families.{AreLinked}
use Rattle.witx_markdown.proofs.kin.link.Given as goal

abbrev pub invariant-loop-node : goal.invariant-loop-node
invariant-loop-node l = AreLinked l.parents l.node l.first l.next
