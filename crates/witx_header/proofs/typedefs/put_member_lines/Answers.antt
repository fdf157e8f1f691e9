use Rattle.witx_header.proofs.Typing.{next-member}
use Rattle.witx_header.proofs.typedefs.put_member_lines.Goals as goal

pub loop-member-preserved : goal.loop-member-preserved
loop-member-preserved c = next-member _ _ _ _ _ _ c.loop-member-test.true c.member-item.is c.in_ok-put_part_lines.ensures c.loop-member.invariant
