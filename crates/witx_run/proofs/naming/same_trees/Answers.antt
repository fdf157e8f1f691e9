use Rattle.std.proofs.Common.{◌∙◌, arith}
use Rattle.std.proofs.lemmas.Grind.{common_steps}
use Rattle.witx_run.proofs.PairLemmas.{pair-fails, pairs-end, pairs-uneven}
use Rattle.witx_run.proofs.NameLemmas.{is_type, trees-pairs}
use Rattle.witx_run.proofs.naming.same_trees.Goals as goal

pub returns-then-types-params : goal.returns-then-types-params
returns-then-types-params c = pairs-uneven is_type c.args.types.now c.args.params.now c.if-types-params.true ∙ trees-pairs c.args.types.now c.args.params.now

pub returns-then-not-is_type : goal.returns-then-not-is_type
returns-then-not-is_type c =
    pair-fails is_type c.args.types.now c.args.params.now c.loop-i.i c.index-types-i.result c.index-params-i.result c.is_type.result c.loop-i-test.true c.if-types-params.false c.index-types-i.is c.index-params-i.is c.is_type.ensures c.if-not-is_type.true c.loop-i.invariant
    ∙ trees-pairs c.args.types.now c.args.params.now

pub returns : goal.returns
returns c = pairs-end is_type c.args.types.now c.args.params.now c.loop-i.i c.loop-i-test.false c.if-types-params.false c.loop-i.invariant ∙ trees-pairs c.args.types.now c.args.params.now

pub loop-i-preserved : goal.loop-i-preserved
loop-i-preserved c = grind (arith, common_steps)
