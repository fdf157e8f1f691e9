use Rattle.witx_traces.specs.LineReading.{texts_taken}
use Rattle.witx_traces.specs.ReadTypes.{known_in}
use Rattle.witx_traces.proofs.EventReading.{lower-err-unknown, lower-ok-unknown}
use Rattle.witx_traces.proofs.event_texts.read_result_lower.Goals as goal

pub returns-in_default-2 : goal.returns-in_default-2
returns-in_default-2 c = lower-ok-unknown (known_in c.args.types.now) c.args.tail.now (texts_taken (c.in-Some.ok, c.in-Some.err)) c.in-Some.ensures (rw c.in_default-2.is at c.in_ok-ok.ensures)

pub returns-in-None : goal.returns-in-None
returns-in-None c = lower-err-unknown (known_in c.args.types.now) c.args.tail.now (texts_taken (c.in-Some.ok, c.in-Some.err)) c.in-Some.ensures (rw c.in-None.is at c.in_ok-err.ensures)
