use Rattle.witx_invoke.proofs.LowerLemmas.{pointer-other}
use Rattle.witx_invoke.proofs.lowering.lower_pointer.Goals as goal

pub returns-in_default : goal.returns-in_default
returns-in_default c = pointer-other c.args.value.now c.in_default.not-Pointer
