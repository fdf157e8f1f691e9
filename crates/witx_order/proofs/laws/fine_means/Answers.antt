use Rattle.witx_order.proofs.FinalFronts.{fine-walk, means-fine}
use Rattle.witx_order.proofs.laws.fine_means.Goals as goal

pub returns : goal.returns
returns g c = λ w handed declared. (λ h. fine-walk w handed declared h, λ m. means-fine w handed declared m.0 m.1.0 m.1.1)
