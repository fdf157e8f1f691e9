use Rattle.std.proofs.Common.{[]}
use Rattle.witx_machine.specs.Machine.{items_off}
use Rattle.witx_run.specs.Views.{item_of, stack_of}
use Rattle.witx_run.proofs.OffLemmas.{items-on, items-short, items-done}
use Rattle.witx_run.proofs.stack.items_off.Goals as goal

pub loop-taken-preserved : goal.loop-taken-preserved
loop-taken-preserved g c =
    items-on (item_of g.D.Domain.value_of g.D.Domain.word_of) c.args.count c.loop-taken._taken c.loop-taken.items.items c.push.new.self.items c.in-Some.item (stack_of g.D.Domain.value_of g.D.Domain.word_of c.loop-taken.stack.items) (stack_of g.D.Domain.value_of g.D.Domain.word_of c.pop_item.new.stack.items)
    (items_off c.args.count [] (stack_of g.D.Domain.value_of g.D.Domain.word_of c.args.stack.now.items)) c.loop-taken-test.true c.in-Some.ensures c.in_ok-push.ensures.items c.loop-taken.invariant

pub returns-in_default : goal.returns-in_default
returns-in_default g c =
    items-short (item_of g.D.Domain.value_of g.D.Domain.word_of) c.args.count c.loop-taken._taken c.loop-taken.items.items (stack_of g.D.Domain.value_of g.D.Domain.word_of c.loop-taken.stack.items)
    (items_off c.args.count [] (stack_of g.D.Domain.value_of g.D.Domain.word_of c.args.stack.now.items)) c.loop-taken-test.true c.in_default.ensures c.loop-taken.invariant

pub returns : goal.returns
returns g c =
    items-done (item_of g.D.Domain.value_of g.D.Domain.word_of) c.args.count c.loop-taken._taken c.loop-taken.items.items c.reverse.new.self.items (stack_of g.D.Domain.value_of g.D.Domain.word_of c.loop-taken.stack.items)
    (items_off c.args.count [] (stack_of g.D.Domain.value_of g.D.Domain.word_of c.args.stack.now.items)) c.loop-taken-test.false c.reverse.ensures.items c.loop-taken.invariant
