use Rattle.witx_traces.specs.ReadTypes.{known_in}
use Rattle.witx_traces.proofs.event_texts.read_fields.Goals as goal

pub returns-in-FinishBlock : goal.returns-in-FinishBlock
returns-in-FinishBlock c = rw c.in-FinishBlock.is (c.finish_event.ensures (known_in c.args.types.now))
