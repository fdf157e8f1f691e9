use Rattle.std.proofs.Common.{◌∙◌, sym, rules}
use Rattle.witx_invoke.proofs.LowerLemmas.{number-lowered, number-other}
use Rattle.witx_invoke.proofs.lowering.lower_number.Goals as goal

pub returns-then-eq : goal.returns-then-eq
returns-then-eq c =
    let lowered = number-lowered c.args.builtin c.in-Num.kind c.in-Num.number c.args.value.now c.in-Num.is (sym c.eq.ensures ∙ c.if-eq.true) in
    search (rules, lowered)

pub returns-in_default : goal.returns-in_default
returns-in_default c = number-other c.args.builtin c.args.value.now c.in_default.not-Num
