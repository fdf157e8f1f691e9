use Rattle.witx_traces.proofs.OneEvent.{one-event}
use Rattle.witx_traces.proofs.traces.a_line_says_at_most_one_event.Goals as goal

pub returns : goal.returns
returns c = one-event
