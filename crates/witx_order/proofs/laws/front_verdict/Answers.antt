use Rattle.witx_order.proofs.FinalFronts.{final-verdict}
use Rattle.witx_order.proofs.laws.front_verdict.Goals as goal

pub returns : goal.returns
returns g c = λ w handed marks v h. final-verdict w handed marks v h
