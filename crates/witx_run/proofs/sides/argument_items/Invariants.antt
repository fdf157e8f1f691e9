use Rattle.std.proofs.Common.{map, ◌≡◌, ◌++◌}
use Rattle.witx_machine.specs.Run.{argument_items}
use Rattle.witx_instructions.specs.Views.{param_types}
use Rattle.witx_run.specs.Views.{items_of}
use Rattle.witx_run.proofs.sides.argument_items.Given as goal

abbrev pub invariant-loop-param : goal.invariant-loop-param
invariant-loop-param g l =
    items_of g.D.Domain.value_of g.D.Domain.word_of l.items.items ++ argument_items (param_types l.param-iterator.a.rest.now) (map g.D.Domain.value_of l.param-iterator.b.rest.now) ≡ argument_items (param_types l.func.params) (map g.D.Domain.value_of l.arguments)
