use Rattle.std.proofs.Common.{◌≡◌, ap, rules}
use Rattle.witx_ast.specs.Views.{named_tree}
use Rattle.witx_traces.proofs.EventReading.{known-named-said}
use Rattle.witx_traces.proofs.event_texts.read_named_step.Goals as goal

pub returns : goal.returns
returns c =
    let same : c.in_ok-clone.field-0.value ≡ c.in-Some.named.now.value = search rules in
    known-named-said c.args.types.now c.args.word c.args.tail.now (named_tree c.in-Some.named.now.value) (named_tree c.in_ok-clone.field-0.value) _ (rw c.in-Some.is at c.in_ok-named.ensures) (ap named_tree same) c.named_step.ensures
