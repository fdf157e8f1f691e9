use Rattle.std.proofs.Common.{[]}
use Rattle.witx_machine.specs.Machine.{values_off}
use Rattle.witx_run.specs.Views.{stack_of}
use Rattle.witx_run.proofs.OffLemmas.{values-on, values-short, values-done}
use Rattle.witx_run.proofs.stack.values_off.Goals as goal

pub loop-taken-preserved : goal.loop-taken-preserved
loop-taken-preserved g c =
    values-on g.D.Domain.value_of c.args.count c.loop-taken._taken c.loop-taken.values.items c.push.new.self.items c.in-Some.value (stack_of g.D.Domain.value_of g.D.Domain.word_of c.loop-taken.stack.items) (stack_of g.D.Domain.value_of g.D.Domain.word_of c.pop_value.new.stack.items)
    (values_off c.args.count [] (stack_of g.D.Domain.value_of g.D.Domain.word_of c.args.stack.now.items)) c.loop-taken-test.true c.in-Some.ensures c.in_ok-push.ensures.items c.loop-taken.invariant

pub returns-in_default : goal.returns-in_default
returns-in_default g c =
    values-short g.D.Domain.value_of c.args.count c.loop-taken._taken c.loop-taken.values.items (stack_of g.D.Domain.value_of g.D.Domain.word_of c.loop-taken.stack.items)
    (values_off c.args.count [] (stack_of g.D.Domain.value_of g.D.Domain.word_of c.args.stack.now.items)) c.loop-taken-test.true c.in_default.ensures c.loop-taken.invariant

pub returns : goal.returns
returns g c =
    values-done g.D.Domain.value_of c.args.count c.loop-taken._taken c.loop-taken.values.items c.reverse.new.self.items (stack_of g.D.Domain.value_of g.D.Domain.word_of c.loop-taken.stack.items)
    (values_off c.args.count [] (stack_of g.D.Domain.value_of g.D.Domain.word_of c.args.stack.now.items)) c.loop-taken-test.false c.reverse.ensures.items c.loop-taken.invariant
