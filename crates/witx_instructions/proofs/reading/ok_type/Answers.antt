use Rattle.std.proofs.Common.{sym, ◌∙◌}
use Rattle.witx_instructions.proofs.Types.{ok-first, ok-none}
use Rattle.witx_instructions.proofs.reading.ok_type.Goals as goal

pub returns-in-Some : goal.returns-in-Some
returns-in-Some c = c.payload.ensures ∙ sym (ok-first _ _ (sym c.in-Some.ensures))

pub returns-in-None : goal.returns-in-None
returns-in-None c = sym (ok-none _ (sym c.in-None.ensures))
