use Rattle.witx_order.proofs.Grouping.{groups-walk, walk-groups, walk-once}
use Rattle.witx_order.proofs.laws.walk_form.Goals as goal

pub returns : goal.returns
returns g c = λ w handed marks. (
  λ g. groups-walk w handed marks g.groups g.once,
  λ declared h. record { groups = walk-groups w handed marks declared h; once = walk-once w handed marks declared h },
)
