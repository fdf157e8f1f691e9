use Rattle.std.proofs.Common.{None, sym}
use Rattle.witx_traces.proofs.EventReading.{by-word, no-word}
use Rattle.witx_traces.proofs.event_texts.bare_event.Goals as goal

pub returns-in_ok-event_alone-in-Some : goal.returns-in_ok-event_alone-in-Some
returns-in_ok-event_alone-in-Some c = λ types. by-word types c.args.word.now None c.in-Some.word _ c.requires (sym c.in-Some.ensures) (c.in_ok-event_alone-in-Some.ensures types)

pub returns-in-None : goal.returns-in-None
returns-in-None c = λ types. no-word types c.args.word.now None c.requires (sym c.in-None.ensures)
