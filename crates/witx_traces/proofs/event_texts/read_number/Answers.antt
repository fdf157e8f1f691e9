use Rattle.std.proofs.Common.{sym, ◌∙◌}
use Rattle.witx_traces.proofs.EventReading.{unparsed, unprinted}
use Rattle.witx_traces.proofs.event_texts.read_number.Goals as goal

pub returns-in_default : goal.returns-in_default
returns-in_default c = unparsed c.args.text.now c.in_default.field-0 c.in_default.ensures.value.0

pub returns : goal.returns
returns c = unprinted c.args.text.now c.in-Ok.number c.parse.result c.in-Ok.is c.parse.ensures.value.0 (sym c.in_ok-is_printed.ensures ∙ c.if-branch.false)
