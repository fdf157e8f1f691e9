use Rattle.std.proofs.Common.{arith}
use Rattle.witx_markdown.proofs.Ancestry.{parent-before, count-more}
use Rattle.witx_markdown.proofs.family.ancestor_count.Goals as goal

pub loop-at-preserved : goal.loop-at-preserved
loop-at-preserved c =
    let before = parent-before c.args.parents.now c.loop-at.at c.in-Some.parent c.requires.parents c.in-Some.is in
    record {
      there = omega (arith, before);
      found = count-more c.args.parents.now c.loop-at.at c.in-Some.parent c.loop-at.count _ c.requires.parents c.in-Some.is c.loop-at.invariant.found;
      most = omega (arith, before);
    }
