use Rattle.std.proofs.Common.{true, false, sym, ◌∙◌}
use Rattle.witx_language.proofs.Wording.{only_is}
use Rattle.witx_language.proofs.messages.only_kind.Goals as goal

pub returns-then-is_alone : goal.returns-then-is_alone
returns-then-is_alone c = only_is c.args.kinds.now c.in_ok-first.first true c.in_ok-first.ensures (sym c.if-is_alone.true ∙ c.is_alone.ensures)

pub returns-else-is_alone : goal.returns-else-is_alone
returns-else-is_alone c = only_is c.args.kinds.now c.in_ok-first.first false c.in_ok-first.ensures (sym c.if-is_alone.false ∙ c.is_alone.ensures)
