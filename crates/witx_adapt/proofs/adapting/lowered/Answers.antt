use Rattle.std.proofs.Common.{ap}
use Rattle.witx_ast.specs.declared.module.Module.{Module}
use Rattle.witx_adapt.proofs.Lowering.{entry-made}
use Rattle.witx_adapt.proofs.adapting.lowered.Goals as goal

pub returns : goal.returns
returns c =
    entry-made c.in_ok-clone.field-0 c.in_ok-clone-2.field-0 _ _ c.in_ok-caller.caller c.in_ok-callee.callee
    c.args.owner.now.value c.args.func.now.value c.deref-function.result.now c.deref.result.now.name
    c.in_ok-clone.ensures.cases c.in_ok-clone-2.ensures.cases c.deref-function.ensures (ap (λ (m : Module). m.name) c.deref.ensures)
    c.in_ok-params.ensures c.in_ok-results.ensures c.in_ok-caller.ensures c.in_ok-callee.ensures
