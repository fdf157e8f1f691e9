use Rattle.std.proofs.Common.{length, map}
use denote.Text.{Utf8}
use denote.Shadow.{shadow}
use Rattle.witx_instructions.specs.Views.{event_of}
use Rattle.witx_traces.specs.ReadTypes.{known_in}
use Rattle.witx_traces.proofs.ReadSteps.{EventsOn}
use Rattle.witx_traces.proofs.reading.read_events.Given as goal

abbrev pub invariant-loop-alloc : goal.invariant-loop-alloc
invariant-loop-alloc l = record {
  rest : shadow (Utf8 l.rest);
  on : EventsOn (known_in l.types) l.text (map event_of l.events) l.rest;
}

abbrev pub decreases-loop-alloc : goal.decreases-loop-alloc
decreases-loop-alloc l = length l.rest
