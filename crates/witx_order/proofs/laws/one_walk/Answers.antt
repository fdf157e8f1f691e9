use Rattle.witx_order.proofs.OnlyOne.{one-walk}
use Rattle.witx_order.proofs.laws.one_walk.Goals as goal

pub returns : goal.returns
returns g c = λ w handed marks marks' declared declared' a b. one-walk w handed marks marks' declared declared' a b
