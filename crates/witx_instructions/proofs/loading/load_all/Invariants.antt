use Rattle.std.proofs.Common.{◌≡◌, ◌++◌, drop}
use Rattle.witx_machine.specs.Traces.{load_all}
use Rattle.witx_instructions.specs.Views.{planned_events, pointer_types}
use Rattle.witx_instructions.proofs.loading.load_all.Given as goal

abbrev pub invariant-loop-n : goal.invariant-loop-n
invariant-loop-n l = planned_events l.plan ++ load_all l.n (pointer_types (drop l.n l.pointers)) ≡ planned_events l.initial.plan ++ load_all 0 (pointer_types l.pointers)
