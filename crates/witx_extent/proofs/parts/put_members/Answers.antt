use Rattle.witx_extent.proofs.Counting.{next-member}
use Rattle.witx_extent.proofs.parts.put_members.Goals as goal

pub loop-member-preserved : goal.loop-member-preserved
loop-member-preserved c =
    next-member _ _ _ c.args.members.now c.loop-member.member-index c.member-item.result c.loop-member-test.true c.member-item.is c.in_ok-put_one.ensures c.loop-member.invariant
