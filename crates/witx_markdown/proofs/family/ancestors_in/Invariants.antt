use Rattle.std.proofs.Common.{◌≡◌, ◌<◌, ◌++◌, length}
use Rattle.witx_markdown.specs.Trees.{ancestors_of}
use Rattle.witx_markdown.proofs.family.ancestors_in.Given as goal

abbrev pub invariant-loop-at : goal.invariant-loop-at
invariant-loop-at l = record {
  there : l.at < length l.parents;
  found : l.numbers ++ ancestors_of l.parents l.at ≡ ancestors_of l.parents l.node;
}

abbrev pub decreases-loop-at : goal.decreases-loop-at
decreases-loop-at l = l.at
