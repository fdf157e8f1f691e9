use Rattle.std.proofs.Common.{◌≡◌, ◌++◌, drop, map, string_bytes}
use Rattle.witx_instructions.specs.Views.{event_of}
use Rattle.witx_adapt.specs.Lines.{event_lines}
use Rattle.witx_adapt.proofs.event_lines.put_events.Given as goal

abbrev pub invariant-loop-event : goal.invariant-loop-event
invariant-loop-event l = string_bytes l.text ++ event_lines (map event_of (drop l.event-index l.events)) ≡ string_bytes l.initial.text ++ event_lines (map event_of l.events)
