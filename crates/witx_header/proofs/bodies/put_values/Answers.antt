use Rattle.witx_header.proofs.Sides.{next-value}
use Rattle.witx_header.proofs.bodies.put_values.Goals as goal

pub loop-place-preserved : goal.loop-place-preserved
loop-place-preserved c = next-value _ _ _ _ _ _ c.loop-place-test.true c.index-params-place.is c.in_ok-put_value.ensures c.loop-place.invariant
