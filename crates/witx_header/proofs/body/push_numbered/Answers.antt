use Rattle.witx_header.proofs.Calls.{push-numbered}
use Rattle.witx_header.proofs.body.push_numbered.Goals as goal

pub loop-number-preserved : goal.loop-number-preserved
loop-number-preserved c = push-numbered _ _ _ _ _ c.loop-number-test.true c.in_ok-push.ensures.items c.loop-number.invariant
