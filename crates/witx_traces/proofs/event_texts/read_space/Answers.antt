use Rattle.std.proofs.Common.{◌≡◌, ◌∷◌, ◌++◌, ap, rules}
use Rattle.witx_ast.specs.Views.{named_tree}
use Rattle.witx_traces.proofs.EventReading.{known-room-said}
use Rattle.witx_traces.proofs.event_texts.read_space.Goals as goal

pub returns-in_ok-clone-in-Some-3 : goal.returns-in_ok-clone-in-Some-3
returns-in_ok-clone-in-Some-3 c =
    let whole : c.args.tail.now ≡ c.in-Some.number.now ++ 32 ∷ c.in-Some.name.now = search rules in
    let same : c.in_ok-clone-in-Some-3.field-0.value ≡ c.in-Some-3.named.now.value = search rules in
    known-room-said c.args.types.now c.args.tail.now c.in-Some.number.now c.in-Some.name.now c.in-Some-2.slot (named_tree c.in-Some-3.named.now.value) (named_tree c.in_ok-clone-in-Some-3.field-0.value)
    whole (rw c.in-Some-2.is at c.in_ok-slot.ensures) (rw c.in-Some-3.is at c.in_ok-named.ensures) (ap named_tree same)
