use Rattle.std.proofs.Common.{◌≡◌, ◌++◌, drop}
use Rattle.witx_machine.specs.Traces.{make_spaces}
use Rattle.witx_instructions.specs.Views.{planned_events, pointer_types}
use Rattle.witx_instructions.proofs.loading.make_spaces.Given as goal

abbrev pub invariant-loop-slot : goal.invariant-loop-slot
invariant-loop-slot l = planned_events l.plan ++ make_spaces l.slot (pointer_types (drop l.slot l.pointers)) ≡ planned_events l.initial.plan ++ make_spaces 0 (pointer_types l.pointers)
