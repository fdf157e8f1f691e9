use Rattle.witx_order.proofs.OnlyOne.{one-verdict}
use Rattle.witx_order.proofs.Ending.{a-verdict}
use Rattle.witx_order.proofs.laws.one_verdict.Goals as goal

pub returns : goal.returns
returns g c = λ w handed. let a = a-verdict w handed in (a.0, (a.1, λ u h. one-verdict w handed _ u a.1 h))
