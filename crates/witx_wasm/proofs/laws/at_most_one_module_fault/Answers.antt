use Rattle.witx_wasm.proofs.ExactModules.{at-most-one-fault}
use Rattle.witx_wasm.proofs.laws.at_most_one_module_fault.Goals as goal

pub returns : goal.returns
returns c = at-most-one-fault
