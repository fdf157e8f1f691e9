use Rattle.std.proofs.Common.{◌≡◌, ◌++◌, length}
use Rattle.witx_markdown.specs.Trees.{children_from, children_of}
use Rattle.witx_markdown.proofs.Descent.{Childs, gathered_at}
use Rattle.witx_markdown.proofs.kin.Kin.put_children.Given as goal

abbrev pub invariant-loop-at : goal.invariant-loop-at
invariant-loop-at l = record {
  child : Childs l.self l.node l.at;
  found : l.numbers ++ gathered_at children_from l.self l.node l.at ≡ l.initial.numbers ++ children_of l.self l.node;
}

abbrev pub decreases-loop-at : goal.decreases-loop-at
decreases-loop-at l = length (gathered_at children_from l.self l.node l.at)
