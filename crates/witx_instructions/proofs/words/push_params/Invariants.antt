use Rattle.std.proofs.Common.{◌≡◌, ◌++◌, drop}
use Rattle.witx_machine.specs.Signature.{words_of_params}
use Rattle.witx_instructions.specs.Views.{param_types}
use Rattle.witx_instructions.proofs.words.push_params.Given as goal

abbrev pub invariant-loop-param : goal.invariant-loop-param
invariant-loop-param l = l.words ++ words_of_params (param_types (drop l.param-index l.params)) ≡ l.initial.words ++ words_of_params (param_types l.params)
