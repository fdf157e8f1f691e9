use Rattle.std.proofs.Common.{◌≡◌, ◌+◌, ◌++◌, drop, length}
use Rattle.witx_machine.specs.Traces.{lift_params}
use Rattle.witx_machine.specs.Signature.{words_of_params}
use Rattle.witx_instructions.specs.Views.{param_types, planned_events}
use Rattle.witx_lowering.proofs.callee.lift_params.Given as goal

abbrev pub invariant-loop-param : goal.invariant-loop-param
invariant-loop-param l = record {
  events : planned_events l.plan ++ lift_params l.word (param_types (drop l.param-index l.params)) ≡ planned_events l.initial.plan ++ lift_params 0 (param_types l.params);
  words : l.word + length (words_of_params (param_types (drop l.param-index l.params))) ≡ length (words_of_params (param_types l.params));
}
