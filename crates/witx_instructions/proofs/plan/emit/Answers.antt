use Rattle.std.proofs.Common.{◌≡◌, rules, arith, refl, ◌++◌}
use Rattle.witx_instructions.specs.Views.{step_of}
use Rattle.witx_instructions.specs.Handed.{emitted}
use Rattle.witx_instructions.proofs.Handing.{none-in-order, one-in-order, all-in-order, cut-in-two, on-err}
use Rattle.witx_instructions.proofs.Plans.{all-front}
use Rattle.witx_instructions.proofs.plan.emit.Goals as goal

pub returns-in_err-append-clause-front : goal.returns-in_err-append-clause-front
returns-in_err-append-clause-front g c = on-err _ _ (all-front _ _ _ c.in_ok-emit.ensures.event)

pub returns-in_err-emit-clause-height : goal.returns-in_err-emit-clause-height
returns-in_err-emit-clause-height g c = grind arith

pub returns-in_err-append-clause-height : goal.returns-in_err-append-clause-height
returns-in_err-append-clause-height g c = grind arith

pub returns-in_err-append-clause-event : goal.returns-in_err-append-clause-event
returns-in_err-append-clause-event g c = search rules

pub returns-in_err-append-clause-cause : goal.returns-in_err-append-clause-cause
returns-in_err-append-clause-cause g c = search rules

pub returns-clause-height : goal.returns-clause-height
returns-clause-height g c = grind arith

pub returns-in_err-operands-clause-front_operands : goal.returns-in_err-operands-clause-front_operands
returns-in_err-operands-clause-front_operands g c = on-err _ _ (none-in-order _ _ _ _ refl)

pub returns-in_err-emit-clause-front_operands : goal.returns-in_err-emit-clause-front_operands
returns-in_err-emit-clause-front_operands g c = on-err _ _ (none-in-order _ _ _ _ c.in_err-emit.ensures.call)

pub returns-in_err-append-clause-front_operands : goal.returns-in_err-append-clause-front_operands
returns-in_err-append-clause-front_operands g c =
    let stands : c.args.stack.now.items ≡ c.split_off.new.self.items ++ c.in_ok-operands.operands.items = cut-in-two _ _ _ _ c.in_ok-operands.ensures.items c.in_ok-operands.ensures.tail in
    on-err _ _ (all-in-order _ _ _ _ _ (one-in-order _ (emitted (step_of c.args.instruction.now) c.in_ok-operands.operands.items c.emit.new.results.items) _ _ _ _ c.in_ok-emit.ensures.call refl (c.split_off.new.self.items, stands, refl)))
