use Rattle.witx_ast.specs.Views.{named_tree}
use Rattle.witx_run.specs.Views.{scalar_of}
use Rattle.witx_run.proofs.MachineLemmas.{arg-performs, addr-performs, lowering-performs, lifting-performs, words-performs, list-performs, pointer-performs, load-performs, store-performs, tuple-performs, parts-performs, reuse-performs, return-performs}
use Rattle.witx_run.proofs.machine.perform.Goals as goal

pub returns-in-GetArg-clause-performs : goal.returns-in-GetArg-clause-performs
returns-in-GetArg-clause-performs g c =
    rw c.in-GetArg.is (arg-performs (g.D.Domain.domain c.args.domain.now) g.D.Domain.value_of g.D.Domain.word_of g.D.Domain.memory_of c.args.arguments.now c.args.has_called c.args.inside.now c.args.machine.now c.get_arg.new.stack c.get_arg.result c.in-GetArg.nth c.get_arg.ensures)

pub returns-in-Lowering-clause-performs : goal.returns-in-Lowering-clause-performs
returns-in-Lowering-clause-performs g c =
    rw c.in-Lowering.is (lowering-performs (g.D.Domain.domain c.args.domain.now) g.D.Domain.value_of g.D.Domain.word_of g.D.Domain.memory_of c.args.arguments.now c.args.has_called c.args.inside.now c.args.machine.now c.lowering.new.stack c.lowering.result (scalar_of c.in-Lowering.conversion) c.lowering.ensures)

pub returns-in-Lifting-clause-performs : goal.returns-in-Lifting-clause-performs
returns-in-Lifting-clause-performs g c =
    rw c.in-Lifting.is (lifting-performs (g.D.Domain.domain c.args.domain.now) g.D.Domain.value_of g.D.Domain.word_of g.D.Domain.memory_of c.args.arguments.now c.args.has_called c.args.inside.now c.args.machine.now c.lifting.new.stack c.lifting.result (scalar_of c.in-Lifting.conversion) c.lifting.ensures)

pub returns-in-ListPointerLength-clause-performs : goal.returns-in-ListPointerLength-clause-performs
returns-in-ListPointerLength-clause-performs g c =
    rw c.in-ListPointerLength.is (words-performs (g.D.Domain.domain c.args.domain.now) g.D.Domain.value_of g.D.Domain.word_of g.D.Domain.memory_of c.args.arguments.now c.args.has_called c.args.inside.now c.args.machine.now c.list_pointer_length.new.stack c.list_pointer_length.result c.list_pointer_length.ensures)

pub returns-in-ListFromPointerLength-clause-performs : goal.returns-in-ListFromPointerLength-clause-performs
returns-in-ListFromPointerLength-clause-performs g c =
    rw c.in-ListFromPointerLength.is (list-performs (g.D.Domain.domain c.args.domain.now) g.D.Domain.value_of g.D.Domain.word_of g.D.Domain.memory_of c.args.arguments.now c.args.has_called c.args.inside.now c.args.machine.now c.list_from_pointer_length.new.stack c.list_from_pointer_length.result c.list_from_pointer_length.ensures)

pub returns-in-ReturnPointerGet-clause-performs : goal.returns-in-ReturnPointerGet-clause-performs
returns-in-ReturnPointerGet-clause-performs g c =
    rw c.in-ReturnPointerGet.is (pointer-performs (g.D.Domain.domain c.args.domain.now) g.D.Domain.value_of g.D.Domain.word_of g.D.Domain.memory_of c.args.arguments.now c.args.has_called c.args.inside.now c.args.machine.now c.return_pointer_get.new.stack c.return_pointer_get.result c.in-ReturnPointerGet.slot c.return_pointer_get.ensures)

pub returns-in-Load-clause-performs : goal.returns-in-Load-clause-performs
returns-in-Load-clause-performs g c =
    rw c.in-Load.is (load-performs (g.D.Domain.domain c.args.domain.now) g.D.Domain.value_of g.D.Domain.word_of g.D.Domain.memory_of c.args.arguments.now c.args.has_called c.args.inside.now c.args.machine.now c.load.new.stack c.load.result (named_tree c.in-Load.ty.now.value) c.load.ensures)

pub returns-in-TupleLift-clause-performs : goal.returns-in-TupleLift-clause-performs
returns-in-TupleLift-clause-performs g c =
    rw c.in-TupleLift.is (tuple-performs (g.D.Domain.domain c.args.domain.now) g.D.Domain.value_of g.D.Domain.word_of g.D.Domain.memory_of c.args.arguments.now c.args.has_called c.args.inside.now c.args.machine.now c.tuple_lift.new.stack c.tuple_lift.result c.in-TupleLift.count c.tuple_lift.ensures)

pub returns-in-TupleLower-clause-performs : goal.returns-in-TupleLower-clause-performs
returns-in-TupleLower-clause-performs g c =
    rw c.in-TupleLower.is (parts-performs (g.D.Domain.domain c.args.domain.now) g.D.Domain.value_of g.D.Domain.word_of g.D.Domain.memory_of c.args.arguments.now c.args.has_called c.args.inside.now c.args.machine.now c.tuple_lower.new.stack c.tuple_lower.result c.in-TupleLower.count c.tuple_lower.ensures)

pub returns-in-ReuseReturn-clause-performs : goal.returns-in-ReuseReturn-clause-performs
returns-in-ReuseReturn-clause-performs g c =
    rw c.in-ReuseReturn.is (reuse-performs (g.D.Domain.domain c.args.domain.now) g.D.Domain.value_of g.D.Domain.word_of g.D.Domain.memory_of c.args.arguments.now c.args.has_called c.args.inside.now c.args.machine.now c.reuse_return.new.stack c.reuse_return.result c.reuse_return.ensures)

pub returns-in-AddrOf-clause-performs : goal.returns-in-AddrOf-clause-performs
returns-in-AddrOf-clause-performs g c =
    rw c.in-AddrOf.is (addr-performs (g.D.Domain.domain c.args.domain.now) g.D.Domain.value_of g.D.Domain.word_of g.D.Domain.memory_of c.args.arguments.now c.args.has_called c.args.inside.now c.args.machine.now c.addr_of.new.stack c.addr_of.result c.addr_of.new.memory c.addr_of.ensures)

pub returns-in-Store-clause-performs : goal.returns-in-Store-clause-performs
returns-in-Store-clause-performs g c =
    rw c.in-Store.is (store-performs (g.D.Domain.domain c.args.domain.now) g.D.Domain.value_of g.D.Domain.word_of g.D.Domain.memory_of c.args.arguments.now c.args.has_called c.args.inside.now c.args.machine.now c.store.new.stack c.store.result c.store.new.memory (named_tree c.in-Store.ty.now.value) c.store.ensures)

pub returns-in-Return-clause-performs : goal.returns-in-Return-clause-performs
returns-in-Return-clause-performs g c =
    rw c.in-Return.is (return-performs (g.D.Domain.domain c.args.domain.now) g.D.Domain.value_of g.D.Domain.word_of g.D.Domain.memory_of c.args.arguments.now c.args.has_called c.args.inside.now c.args.machine.now c.in-Return.count c.return_items.new.machine c.return_items.result c.return_items.ensures.performs)
