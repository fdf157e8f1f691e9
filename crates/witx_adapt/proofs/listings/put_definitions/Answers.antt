use Rattle.std.proofs.Common.{arith}
use Rattle.std.proofs.lemmas.Grind.{common_steps}
use Rattle.witx_adapt.proofs.ListingSteps.{module-step}
use Rattle.witx_adapt.proofs.listings.put_definitions.Goals as goal

pub loop-definition-preserved-in-Module : goal.loop-definition-preserved-in-Module
loop-definition-preserved-in-Module c =
    let e = c.in_ok-functions-in-Module.ensures in
    let d = c.deref-in-Module.ensures in
    module-step _ _ _ c.in-Module.module _ _ _ _ _ _ c.loop-definition-test.true c.definition-item.is c.in-Module.is (rw d at e.lines) (rw d at e.rest) c.loop-definition.invariant

pub loop-definition-preserved-in-Typename : goal.loop-definition-preserved-in-Typename
loop-definition-preserved-in-Typename c = grind (arith, common_steps)

pub loop-definition-preserved : goal.loop-definition-preserved
loop-definition-preserved c = grind (arith, common_steps)

pub returns : goal.returns
returns c = grind (arith, common_steps)
