use Rattle.std.proofs.Common.{◌≡◌, ◌≤◌, ◌++◌, take, length}
use Rattle.witx_machine.specs.Traces.{store_all}
use Rattle.witx_instructions.specs.Views.{planned_events, pointer_types}
use Rattle.witx_lowering.proofs.callee.store_all.Given as goal

abbrev pub invariant-loop-left : goal.invariant-loop-left
invariant-loop-left l = record {
  within : l.left ≤ length l.pointers;
  events : planned_events l.plan ++ store_all l.first (take l.left (pointer_types l.pointers)) ≡ planned_events l.initial.plan ++ store_all l.first (pointer_types l.pointers);
}

abbrev pub decreases-loop-left : goal.decreases-loop-left
decreases-loop-left l = l.left
