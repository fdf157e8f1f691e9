use Rattle.std.proofs.Common.{arith}
use Rattle.witx_markdown.proofs.Ancestry.{parent-before, one-more}
use Rattle.witx_markdown.proofs.family.ancestors_in.Goals as goal

pub loop-at-preserved : goal.loop-at-preserved
loop-at-preserved c =
    let before = parent-before c.args.parents.now c.loop-at.at c.in-Some.parent c.requires.parents c.in-Some.is in
    record {
      there = omega (arith, before);
      found = rw c.in_ok-push.ensures (one-more c.args.parents.now c.loop-at.at c.in-Some.parent c.loop-at.numbers _ c.requires.parents c.in-Some.is c.loop-at.invariant.found);
    }
