use Rattle.witx_header.proofs.Typing.{next-case}
use Rattle.witx_header.proofs.values.put_cases.Goals as goal

pub loop-place-preserved : goal.loop-place-preserved
loop-place-preserved c = next-case _ _ _ _ _ _ _ _ c.loop-place-test.true c.index-cases-place.is c.in_ok-put_case.ensures c.loop-place.invariant
