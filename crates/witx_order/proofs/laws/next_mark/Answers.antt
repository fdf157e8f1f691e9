use Rattle.std.proofs.Common.{◌≡◌, subst}
use Rattle.witx_order.specs.Walks.{Place, next, go}
use Rattle.witx_order.proofs.FinalFronts.{snoc, unsnoc}
use Rattle.witx_order.proofs.OnlyOne.{one-last}
use Rattle.witx_order.proofs.laws.next_mark.Goals as goal

pub returns : goal.returns
returns g c = λ w handed marks last leads mark. (
  λ behind e. (behind, snoc w leads e),
  λ f. let k = unsnoc w marks f.1 in let P : Place → Type 0 = λ z. next w z ≡ go mark f.0 in (f.0, subst P (one-last w k.1.0 leads) k.1.1),
)
