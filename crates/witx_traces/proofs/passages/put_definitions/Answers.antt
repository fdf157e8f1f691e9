use Rattle.witx_traces.proofs.PassageSteps.{module-step}
use Rattle.witx_traces.proofs.passages.put_definitions.Goals as goal

pub loop-definition-preserved-in-Module : goal.loop-definition-preserved-in-Module
loop-definition-preserved-in-Module c =
    let e = c.in_ok-functions-in-Module.ensures in
    let d = c.deref-in-Module.ensures in
    module-step _ _ _ c.in-Module.module _ _ _ _ _ _ c.loop-definition-test.true c.definition-item.is c.in-Module.is (rw d at e.put) (rw d at e.rest) c.loop-definition.invariant
