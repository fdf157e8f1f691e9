use Rattle.witx_wasm.proofs.ExactModules.{module-or-fault}
use Rattle.witx_wasm.proofs.laws.a_module_or_a_fault.Goals as goal

pub returns : goal.returns
returns c = module-or-fault
