use Rattle.witx_wasm.proofs.ExactModules.{no-fault}
use Rattle.witx_wasm.proofs.laws.no_fault_in_a_module.Goals as goal

pub returns : goal.returns
returns c = no-fault
