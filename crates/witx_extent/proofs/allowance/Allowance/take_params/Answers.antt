use Rattle.witx_extent.proofs.Counting.{next-param}
use Rattle.witx_extent.proofs.allowance.Allowance.take_params.Goals as goal

pub loop-param-preserved : goal.loop-param-preserved
loop-param-preserved c =
    next-param _ _ _ _ c.args.params.now c.loop-param.param-index c.param-item.result c.loop-param-test.true c.param-item.is c.in_ok-take.ensures c.loop-param.invariant
