use Rattle.std.proofs.Common.{arith}
use Rattle.witx_wasm.proofs.Steps.{group-below, below-32}
use Rattle.witx_wasm.proofs.numbers.+unsigned.Goals as goal

pub overflow_mul-result : goal.overflow_mul-result
overflow_mul-result t c =
    let small = group-below c.args.bits c.in_ok-high-in-len1-up-2.high 0 (omega (arith, c.if-bits-le7.false)) c.in_ok-high-in-len1-up-2.ensures.small (omega arith) in
    let most = below-32 c.args.bits c.requires in
    omega (arith, small, most)

pub overflow_add-result : goal.overflow_add-result
overflow_add-result t c =
    let small = group-below c.args.bits c.in_ok-high-in-len1-up-2.high c.group_of.result (omega (arith, c.if-bits-le7.false)) c.in_ok-high-in-len1-up-2.ensures.small c.group_of.ensures.small in
    let most = below-32 c.args.bits c.requires in
    omega (arith, small, most)

pub returns-in_ok-high-in-len1-up-2-clause-small : goal.returns-in_ok-high-in-len1-up-2-clause-small
returns-in_ok-high-in-len1-up-2-clause-small t c =
    group-below c.args.bits c.in_ok-high-in-len1-up-2.high c.group_of.result (omega (arith, c.if-bits-le7.false)) c.in_ok-high-in-len1-up-2.ensures.small c.group_of.ensures.small
