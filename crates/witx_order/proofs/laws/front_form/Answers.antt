use Rattle.witx_order.proofs.GroupingFronts.{front-groups, groups-front}
use Rattle.witx_order.proofs.laws.front_form.Goals as goal

pub returns : goal.returns
returns g c = λ w handed marks. (λ g. groups-front w handed marks g, λ h. front-groups w handed marks h)
