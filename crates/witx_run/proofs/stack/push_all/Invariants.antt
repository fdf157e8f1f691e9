use Rattle.std.proofs.Common.{◌≡◌, length}
use Rattle.std.specs.Prelude.{reverse, map}
use Rattle.witx_machine.specs.Machine.{pushed, plain_item}
use Rattle.witx_run.specs.Views.{stack_of}
use Rattle.witx_run.proofs.stack.push_all.Given as goal

abbrev pub invariant-loop-value : goal.invariant-loop-value
invariant-loop-value g l =
    pushed (map plain_item (map g.D.Domain.value_of (reverse l.left.items))) (stack_of g.D.Domain.value_of g.D.Domain.word_of l.stack.items)
    ≡ pushed (map plain_item (map g.D.Domain.value_of (reverse l.initial.left.items))) (stack_of g.D.Domain.value_of g.D.Domain.word_of l.initial.stack.items)

abbrev pub decreases-loop-value : goal.decreases-loop-value
decreases-loop-value g l = length l.left.items
