use Rattle.witx_conditions.proofs.Allocating.{EventsFrom}
use Rattle.witx_conditions.proofs.traces.events_fit.Given as goal

abbrev pub invariant-loop-event : goal.invariant-loop-event
invariant-loop-event l = record { fit : EventsFrom l.events l.event-index }
