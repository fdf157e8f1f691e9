use Rattle.witx_wasm.proofs.ExactModules.{at-most-one-module}
use Rattle.witx_wasm.proofs.laws.at_most_one_module.Goals as goal

pub returns : goal.returns
returns c = at-most-one-module
