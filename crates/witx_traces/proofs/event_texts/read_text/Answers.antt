use Rattle.witx_traces.specs.ReadTypes.{known_in}
use Rattle.witx_traces.proofs.event_texts.read_text.Goals as goal

pub returns-in_ok-bare_event-in-None : goal.returns-in_ok-bare_event-in-None
returns-in_ok-bare_event-in-None c = c.in_ok-bare_event-in-None.ensures (known_in c.args.types.now)
