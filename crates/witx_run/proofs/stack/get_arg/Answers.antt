use Rattle.witx_run.specs.Views.{stack_of}
use Rattle.witx_run.proofs.StackLemmas.{arg-none, arg-some, got-none, got-some}
use Rattle.witx_run.proofs.stack.get_arg.Goals as goal

pub returns-in_ok-push-in-Some : goal.returns-in_ok-push-in-Some
returns-in_ok-push-in-Some g c =
    let found = c.in-Some.ensures.lookup in
    arg-some g.D.Domain.value_of g.D.Domain.word_of c.args.arguments.now c.args.nth c.in-Some.item.now c.in_ok-copy_item-in-Some.field-0 c.args.stack.now.items c.push.new.self.items (got-some c.args.arguments.now c.args.nth c.in-Some.item.now found.3.0 found.1) c.in_ok-copy_item-in-Some.ensures c.in_ok-push-in-Some.ensures.items

pub returns-in-None : goal.returns-in-None
returns-in-None g c = arg-none g.D.Domain.value_of g.D.Domain.word_of c.args.arguments.now c.args.nth (stack_of g.D.Domain.value_of g.D.Domain.word_of c.args.stack.now.items) (got-none c.args.arguments.now c.args.nth c.in-None.ensures.lookup.3)
