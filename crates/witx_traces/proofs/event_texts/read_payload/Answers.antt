use Rattle.witx_ast.specs.Views.{tree_of}
use Rattle.witx_traces.proofs.EventReading.{known-payload-said}
use Rattle.witx_traces.proofs.event_texts.read_payload.Goals as goal

pub returns-in-Some-2 : goal.returns-in-Some-2
returns-in-Some-2 c = rw c.in-Some.is (known-payload-said c.args.types.now c.in-Some.text.now (tree_of c.in-Some-2.ty) (rw c.in-Some-2.is at c.in_ok-ty-in-Some.ensures))
