use Rattle.std.proofs.Common.{rules, ◌≡◌, length, arith}
use Rattle.std.proofs.lemmas.Grind.{common_steps}
use Rattle.witx_run.proofs.SlotLemmas.{agrees-more, known-more}
use Rattle.witx_run.proofs.slots.Slots.give.Goals as goal

pub invariant_of-self-in-Ok : goal.invariant_of-self-in-Ok
invariant_of-self-in-Ok g c =
    let at : c.len-place.result ≡ length c.args.self.now.in_order.items = search rules in
    record {
      agrees = agrees-more c.args.self.now.in_order.items c.push.new.self.items c.args.self.now.places c.insert.new.self c.args.slot c.len-place.result c.args.address at c.in_ok-push.ensures.items c.args.self.now.known c.in-Ok.ensures.updates c.args.self.now.agrees;
      known = known-more c.args.self.now.in_order.items c.push.new.self.items c.args.self.now.places c.insert.new.self c.args.slot c.len-place.result c.args.address at c.in_ok-push.ensures.items c.args.self.now.known c.in-Ok.ensures.updates;
    }

pub invariant_of-self-in-Err : goal.invariant_of-self-in-Err
invariant_of-self-in-Err g c = grind (arith, common_steps)
