use Rattle.std.proofs.Common.{arith}
use Rattle.std.proofs.lemmas.Grind.{common_steps}
use Rattle.witx_adapt.proofs.ListingSteps.{func-step, func-left}
use Rattle.witx_adapt.proofs.listings.put_items.Goals as goal

pub loop-item-preserved : goal.loop-item-preserved
loop-item-preserved c =
    let e = c.in_ok-rest-in-Func.ensures in
    let d = c.deref-in-Func.ensures in
    record {
      lines = func-step _ _ _ c.in-Func.func _ _ _ _ _ c.loop-item-test.true c.item-item.is c.in-Func.is (rw d at e.lines) e.rest c.loop-item.invariant.lines;
      left = func-left _ _ _ c.in-Func.func _ _ _ c.loop-item-test.true c.item-item.is c.in-Func.is e.rest c.loop-item.invariant.left;
    }

pub loop-item-preserved-in-Import : goal.loop-item-preserved-in-Import
loop-item-preserved-in-Import c = grind (arith, common_steps)

pub returns-clause-lines : goal.returns-clause-lines
returns-clause-lines c = grind (arith, common_steps)

pub returns-clause-rest : goal.returns-clause-rest
returns-clause-rest c = grind (arith, common_steps)
