use Rattle.witx_header.proofs.Typing.{next-part, next-payload}
use Rattle.witx_header.proofs.types.+typing.Goals as goal

pub put_members-loop-member-preserved : goal.put_members-loop-member-preserved
put_members-loop-member-preserved t c =
    next-part _ _ _ _ _ _ c.loop-member-test.true c.member-item.is (rw c.as_str.ensures at c.in_ok-put_part.ensures) c.loop-member.invariant

pub put_payloads-loop-case-preserved : goal.put_payloads-loop-case-preserved
put_payloads-loop-case-preserved t c =
    next-payload _ _ _ _ _ _ c.loop-case-test.true c.case-item.is c.in_ok-put_payload.ensures c.loop-case.invariant
