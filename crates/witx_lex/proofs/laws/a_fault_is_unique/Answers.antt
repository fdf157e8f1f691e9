use Rattle.std.proofs.Common.{◌∙◌, sym}
use Rattle.witx_lex.proofs.Faults.{one_place}
use Rattle.witx_lex.proofs.laws.a_fault_is_unique.Goals as goal

pub returns : goal.returns
returns c text kind other at place f g =
    let h = one_place f.0 g.0 0 text f.1 g.1 kind other f.2 g.2 f.3 g.3 f.4 g.4 in
    (h.0, f.5 ∙ h.1 ∙ sym g.5)
