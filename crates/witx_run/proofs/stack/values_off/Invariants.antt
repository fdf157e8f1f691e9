use Rattle.std.proofs.Common.{◌≡◌, ◌-◌, []}
use Rattle.std.specs.Prelude.{reverse, map}
use Rattle.witx_machine.specs.Machine.{values_off}
use Rattle.witx_run.specs.Views.{stack_of}
use Rattle.witx_run.proofs.stack.values_off.Given as goal

abbrev pub invariant-loop-taken : goal.invariant-loop-taken
invariant-loop-taken g l = values_off (l.count - l._taken) (reverse (map g.D.Domain.value_of l.values.items)) (stack_of g.D.Domain.value_of g.D.Domain.word_of l.stack.items) ≡ values_off l.count [] (stack_of g.D.Domain.value_of g.D.Domain.word_of l.initial.stack.items)
