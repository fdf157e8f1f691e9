use Rattle.std.proofs.Common.{rules, ◌≡◌, None, Some}
use Rattle.std.specs.Prelude.{reverse}
use Rattle.witx_ast.specs.Views.{named_tree}
use Rattle.witx_machine.specs.Machine.{slot_word}
use Rattle.witx_run.proofs.MachineLemmas.{slot-given, slot-taken}
use Rattle.witx_run.proofs.machine.give_slot.Goals as goal

pub returns-in-Some-clause-gives : goal.returns-in-Some-clause-gives
returns-in-Some-clause-gives g c =
    let taken : Some c.in-Some._address.now ≡ slot_word c.args.slot (reverse c.args.machine.now.slots.in_order.items) = search rules in
    slot-taken (g.D.Domain.domain c.args.domain.now) g.D.Domain.value_of g.D.Domain.word_of g.D.Domain.memory_of c.args.slot (named_tree c.args.ty.now.value) c.args.machine.now c.args.machine.now c.in-Some._address.now taken

pub returns-in_ok-give-in-Some-2-clause-gives : goal.returns-in_ok-give-in-Some-2-clause-gives
returns-in_ok-give-in-Some-2-clause-gives g c =
    let free : None ≡ slot_word c.args.slot (reverse c.args.machine.now.slots.in_order.items) = search rules in
    let given : Some (g.D.Domain.word_of c.in-Some-2.address, g.D.Domain.memory_of c.give.new.memory) ≡ (g.D.Domain.domain c.args.domain.now).give (named_tree c.args.ty.now.value) (g.D.Domain.memory_of c.args.machine.now.memory) = search rules in
    slot-given (g.D.Domain.domain c.args.domain.now) g.D.Domain.value_of g.D.Domain.word_of g.D.Domain.memory_of c.args.slot (named_tree c.args.ty.now.value) c.args.machine.now c.in-Some-2.address c.give-in-Some-2.new.self c.give.new.memory free given c.in_ok-give-in-Some-2.ensures
