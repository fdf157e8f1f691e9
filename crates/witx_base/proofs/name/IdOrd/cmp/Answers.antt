use Rattle.std.proofs.Common.{ap₂, nat_cmp, sym, ◌∙◌}
use Rattle.std.specs.Cmp.Lexicographic.{slice_cmp}
use Rattle.witx_base.specs.Spellings.{spelled}
use Rattle.witx_base.proofs.FrontOrder.{front-decides}
use Rattle.witx_base.proofs.name.IdOrd.cmp.Goals as goal

pub returns-else-self-other : goal.returns-else-self-other
returns-else-self-other c =
    c.cmp.ensures
    ∙ ap₂ nat_cmp c.self.invariant.0 c.other.invariant.0
    ∙ front-decides (spelled c.self.inside.text) (spelled c.other.inside.text) c.self.invariant.1 c.other.invariant.1
    (λ same. c.if-self-other.false (c.self.invariant.0 ∙ same ∙ sym c.other.invariant.0))
    ∙ ap₂ (slice_cmp nat_cmp) c.self.view_is c.other.view_is
