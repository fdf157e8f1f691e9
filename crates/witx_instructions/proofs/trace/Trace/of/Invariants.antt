use Rattle.std.proofs.Common.{◌≡◌, take, map}
use Rattle.witx_instructions.specs.Views.{event_of, planned_events}
use Rattle.witx_instructions.proofs.trace.Trace.of.Given as goal

abbrev pub invariant-loop-planned : goal.invariant-loop-planned
invariant-loop-planned l = map event_of l.events ≡ planned_events (take l.planned-index l.plan)
