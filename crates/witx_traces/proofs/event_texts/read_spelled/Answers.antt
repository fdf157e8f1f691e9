use Rattle.std.proofs.Common.{Some, sym}
use Rattle.witx_traces.specs.ReadTypes.{known_in}
use Rattle.witx_traces.proofs.EventReading.{by-word, no-word}
use Rattle.witx_traces.proofs.event_texts.read_spelled.Goals as goal

pub returns-in_ok-read_fields-in-Some : goal.returns-in_ok-read_fields-in-Some
returns-in_ok-read_fields-in-Some c = by-word (known_in c.args.types.now) c.args.word.now (Some c.args.tail.now) c.in-Some.word _ c.requires (sym c.in-Some.ensures) c.in_ok-read_fields-in-Some.ensures

pub returns-in-None : goal.returns-in-None
returns-in-None c = no-word (known_in c.args.types.now) c.args.word.now (Some c.args.tail.now) c.requires (sym c.in-None.ensures)
