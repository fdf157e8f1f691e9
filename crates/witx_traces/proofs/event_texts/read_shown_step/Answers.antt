use Rattle.witx_ast.specs.Views.{tree_of}
use Rattle.witx_traces.proofs.EventReading.{known-shown-said}
use Rattle.witx_traces.proofs.event_texts.read_shown_step.Goals as goal

pub returns-in-Some : goal.returns-in-Some
returns-in-Some c = known-shown-said c.args.types.now c.args.word c.args.tail.now (tree_of c.in-Some.ty) _ (rw c.in-Some.is at c.in_ok-ty.ensures) c.shown_step.ensures
