use Rattle.std.proofs.Common.{◌∙◌, sym, rules}
use Rattle.witx_bytes.proofs.Belonging.{number_value}
use Rattle.witx_bytes.proofs.membership.is_number.Goals as goal

pub returns-then-eq : goal.returns-then-eq
returns-then-eq c =
    let same = number_value c.args.ty c.in-Num.kind c.in-Num.number c.args.value.now c.in-Num.is (sym c.eq.ensures ∙ c.if-eq.true) in
    search (rules, same)
