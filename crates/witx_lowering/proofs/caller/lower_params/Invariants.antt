use Rattle.std.proofs.Common.{◌≡◌, ◌++◌, drop}
use Rattle.witx_machine.specs.Traces.{lower_params}
use Rattle.witx_instructions.specs.Views.{param_types, planned_events}
use Rattle.witx_lowering.proofs.caller.lower_params.Given as goal

abbrev pub invariant-loop-nth : goal.invariant-loop-nth
invariant-loop-nth l = planned_events l.plan ++ lower_params l.nth (param_types (drop l.nth l.params)) ≡ planned_events l.initial.plan ++ lower_params 0 (param_types l.params)
