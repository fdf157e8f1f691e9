use Rattle.witx_header.proofs.Typing.{next-case_payload}
use Rattle.witx_header.proofs.typedefs.put_payload_lines.Goals as goal

pub loop-case-preserved : goal.loop-case-preserved
loop-case-preserved c = next-case_payload _ _ _ _ _ _ c.loop-case-test.true c.case-item.is c.in_ok-put_case_payload.ensures c.loop-case.invariant
