use Rattle.std.proofs.Common.{arith}
use Rattle.std.proofs.lemmas.Grind.{common_steps}
use Rattle.std.proofs.Common.{◌≡◌, ◌<◌, ◌∙◌, length, get_or, subst, ◌≤◌}
use Rattle.witx_instructions.proofs.Handing.{in-order-front, in-order-next, plan-in-order, on-err}
use Rattle.witx_instructions.proofs.Plans.{front-next, told-next, ready-next}
use Rattle.witx_instructions.proofs.plan.play.Goals as goal

pub returns-in_err-play_one-clause-front : goal.returns-in_err-play_one-clause-front
returns-in_err-play_one-clause-front g c =
    let i = c.loop-planned.planned-index in
    let lt = subst (λ xs. i < length xs) c.as_slice-planned-items.ensures c.loop-planned-test.true in
    let is = subst (λ xs. c.planned-item.result ≡ get_or xs i c.planned-item.result) c.as_slice-planned-items.ensures c.planned-item.is in
    on-err c.from_residual.result _ (front-next c.args.plan.now i c.planned-item.result _ _ _ lt is c.loop-planned.invariant.told c.in_err-play_one.ensures.front)

pub returns-in_err-play_one-clause-front_operands : goal.returns-in_err-play_one-clause-front_operands
returns-in_err-play_one-clause-front_operands g c =
    let i = c.loop-planned.planned-index in
    let lt = subst (λ xs. i < length xs) c.as_slice-planned-items.ensures c.loop-planned-test.true in
    let is = subst (λ xs. c.planned-item.result ≡ get_or xs i c.planned-item.result) c.as_slice-planned-items.ensures c.planned-item.is in
    on-err c.from_residual.result _ (in-order-front c.args.plan.now i c.planned-item.result _ _ _ _ _ lt is c.loop-planned.invariant.in_order c.in_err-play_one.ensures.front_operands)

pub loop-planned-preserved : goal.loop-planned-preserved
loop-planned-preserved g c =
    let i = c.loop-planned.planned-index in
    let lt = subst (λ xs. i < length xs) c.as_slice-planned-items.ensures c.loop-planned-test.true in
    let is = subst (λ xs. c.planned-item.result ≡ get_or xs i c.planned-item.result) c.as_slice-planned-items.ensures c.planned-item.is in
    record {
      told = told-next c.args.plan.now i c.planned-item.result _ _ _ lt is c.loop-planned.invariant.told c.in_ok-play_one.ensures.event;
      in_order = in-order-next c.args.plan.now i c.planned-item.result _ _ _ _ _ _ lt is c.loop-planned.invariant.in_order c.in_ok-play_one.ensures.operands;
      ready = ready-next c.args.plan.now i _ _ c.planned-item.result lt is c.in_ok-play_one.ensures.height c.loop-planned.invariant.ready;
      counted = c.in_ok-play_one.ensures.cause ∙ c.loop-planned.invariant.counted;
    }

pub returns-clause-events : goal.returns-clause-events
returns-clause-events g c = grind (arith, common_steps)

pub play_one-requires : goal.play_one-requires
play_one-requires g c = grind (arith, common_steps)

pub returns-clause-operands : goal.returns-clause-operands
returns-clause-operands g c =
    plan-in-order c.args.plan.now c.loop-planned.planned-index _ _ _ (subst (λ xs. length xs ≤ c.loop-planned.planned-index) c.as_slice-planned-items.ensures c.loop-planned-test.false)
    c.loop-planned.invariant.in_order
