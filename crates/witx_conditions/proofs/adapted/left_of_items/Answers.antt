use Rattle.std.proofs.Common.{rules, refl, ◌<◌, ◌∷◌, []}
use Rattle.witx_ast.specs.Items.{item_tree}
use Rattle.witx_adapt.specs.Listings.{func_count}
use Rattle.witx_conditions.proofs.Counting.{item-first, left-all, left-less, left-next}
use Rattle.witx_conditions.proofs.adapted.left_of_items.Goals as goal

pub loop-item-preserved : goal.loop-item-preserved
loop-item-preserved c = record {
  left = left-next item_tree func_count item-first c.args.items.now c.args.number c.loop-item.item-index c.loop-item.left c.in_ok-left.left
      c.item-item.result c.loop-item-test.true c.item-item.is c.loop-item.invariant.left (search rules);
}

pub returns-in_err-left-clause-less : goal.returns-in_err-left-clause-less
returns-in_err-left-clause-less c =
    let less : c.loop-item.left < func_count (item_tree c.item-item.result ∷ []) = search rules in
    λ _. left-less item_tree func_count item-first c.args.items.now c.args.number c.loop-item.item-index c.loop-item.left c.item-item.result
    c.loop-item-test.true c.item-item.is c.loop-item.invariant.left less

pub returns-clause-left : goal.returns-clause-left
returns-clause-left c =
    left-all item_tree func_count c.args.items.now c.args.number c.loop-item.item-index c.loop-item.left c.loop-item-test.false refl
    c.loop-item.invariant.left
