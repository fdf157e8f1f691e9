use Rattle.std.proofs.Common.{rules, ◌≡◌, Some, None}
use Rattle.std.specs.Prelude.{reverse}
use Rattle.witx_machine.specs.Machine.{slot_word}
use Rattle.witx_run.specs.Views.{stack_of}
use Rattle.witx_run.proofs.StackLemmas.{slot-none, slot-some}
use Rattle.witx_run.proofs.stack.return_pointer_get.Goals as goal

pub returns-in_ok-push-in-Some : goal.returns-in_ok-push-in-Some
returns-in_ok-push-in-Some g c =
    let found : Some c.in-Some.address.now ≡ slot_word c.args.slot (reverse c.args.slots.now.in_order.items) = search rules in
    slot-some g.D.Domain.value_of g.D.Domain.word_of c.args.slots.now.in_order.items c.args.slot c.in-Some.address.now c.in_ok-copy_word-in-Some.field-0 c.args.stack.now.items c.push.new.self.items found c.in_ok-copy_word-in-Some.ensures c.in_ok-push-in-Some.ensures.items

pub returns-in-None : goal.returns-in-None
returns-in-None g c =
    let none : None ≡ slot_word c.args.slot (reverse c.args.slots.now.in_order.items) = search rules in
    slot-none g.D.Domain.value_of g.D.Domain.word_of c.args.slots.now.in_order.items c.args.slot (stack_of g.D.Domain.value_of g.D.Domain.word_of c.args.stack.now.items) none
