use Rattle.std.proofs.Common.{◌≡◌, ◌-◌, []}
use Rattle.std.specs.Prelude.{reverse, map}
use Rattle.witx_machine.specs.Machine.{items_off}
use Rattle.witx_run.specs.Views.{item_of, stack_of}
use Rattle.witx_run.proofs.stack.items_off.Given as goal

abbrev pub invariant-loop-taken : goal.invariant-loop-taken
invariant-loop-taken g l = items_off (l.count - l._taken) (reverse (map (item_of g.D.Domain.value_of g.D.Domain.word_of) l.items.items)) (stack_of g.D.Domain.value_of g.D.Domain.word_of l.stack.items) ≡ items_off l.count [] (stack_of g.D.Domain.value_of g.D.Domain.word_of l.initial.stack.items)
