use Rattle.std.proofs.Common.{map, None, refl, arith}
use Rattle.std.proofs.lemmas.Grind.{common_steps}
use Rattle.std.proofs.lemmas.Slice.Zip.{either_empty_from_Zip}
use Rattle.witx_machine.specs.Run.{argument_items}
use Rattle.witx_instructions.specs.Views.{param_types}
use Rattle.witx_run.specs.Views.{items_of}
use Rattle.witx_run.proofs.SideLemmas.{arguments-end}
use Rattle.witx_run.proofs.sides.argument_items.Goals as goal

pub returns : goal.returns
returns g c =
    arguments-end g.D.Domain.value_of (items_of g.D.Domain.value_of g.D.Domain.word_of c.loop-param.items.items) (argument_items (param_types c.args.func.now.params) (map g.D.Domain.value_of c.args.arguments.now)) c.loop-param.param-iterator.a.rest.now c.loop-param.param-iterator.b.rest.now
    (either_empty_from_Zip c.loop-param.param-iterator c.loop-param.param-iterator None refl c.in-None.ensures.steps) c.loop-param.invariant

pub loop-param-preserved : goal.loop-param-preserved
loop-param-preserved g c = grind (arith, common_steps)
