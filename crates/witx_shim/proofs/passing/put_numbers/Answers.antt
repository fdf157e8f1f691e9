use Rattle.witx_shim.proofs.SpanSteps.{next-number}
use Rattle.witx_shim.proofs.passing.put_numbers.Goals as goal

pub loop-i-preserved : goal.loop-i-preserved
loop-i-preserved c = next-number c.loop-i.pass _ _ c.loop-i.i c.args.end c.loop-i-test.true c.in_ok-push.ensures c.loop-i.invariant
