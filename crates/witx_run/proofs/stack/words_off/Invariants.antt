use Rattle.std.proofs.Common.{◌≡◌, ◌-◌, []}
use Rattle.std.specs.Prelude.{reverse, map}
use Rattle.witx_machine.specs.Machine.{words_off}
use Rattle.witx_run.specs.Views.{stack_of}
use Rattle.witx_run.proofs.stack.words_off.Given as goal

abbrev pub invariant-loop-taken : goal.invariant-loop-taken
invariant-loop-taken g l = words_off (l.count - l._taken) (reverse (map g.D.Domain.word_of l.words.items)) (stack_of g.D.Domain.value_of g.D.Domain.word_of l.stack.items) ≡ words_off l.count [] (stack_of g.D.Domain.value_of g.D.Domain.word_of l.initial.stack.items)
