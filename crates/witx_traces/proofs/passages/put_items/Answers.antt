use Rattle.witx_adapt.proofs.ListingSteps.{func-left}
use Rattle.witx_traces.proofs.PassageSteps.{func-step}
use Rattle.witx_traces.proofs.passages.put_items.Goals as goal

pub loop-item-preserved : goal.loop-item-preserved
loop-item-preserved c =
    let e = c.in_ok-rest-in-Func.ensures in
    let d = c.deref-in-Func.ensures in
    record {
      put = func-step _ _ _ c.in-Func.func _ _ _ _ _ c.loop-item-test.true c.item-item.is c.in-Func.is (rw d at e.put) e.rest c.loop-item.invariant.put;
      left = func-left _ _ _ c.in-Func.func _ _ _ c.loop-item-test.true c.item-item.is c.in-Func.is e.rest c.loop-item.invariant.left;
    }
