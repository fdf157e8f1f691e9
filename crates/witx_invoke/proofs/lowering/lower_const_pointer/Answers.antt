use Rattle.witx_invoke.proofs.LowerLemmas.{const-other}
use Rattle.witx_invoke.proofs.lowering.lower_const_pointer.Goals as goal

pub returns-in_default : goal.returns-in_default
returns-in_default c = const-other c.args.value.now c.in_default.not-ConstPointer
