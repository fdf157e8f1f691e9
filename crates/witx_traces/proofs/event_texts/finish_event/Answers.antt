use Rattle.std.proofs.Common.{sym, ◌∙◌, true, false}
use Rattle.witx_traces.proofs.EventReading.{finished-said}
use Rattle.witx_traces.proofs.event_texts.finish_event.Goals as goal

pub returns-then-is_same : goal.returns-then-is_same
returns-then-is_same c = λ types. finished-said types c.args.tail.now true (sym c.is_same.ensures ∙ c.if-is_same.true)

pub returns-then-is_same-2 : goal.returns-then-is_same-2
returns-then-is_same-2 c = λ types. finished-said types c.args.tail.now false (sym c.is_same-2.ensures ∙ c.if-is_same-2.true)
