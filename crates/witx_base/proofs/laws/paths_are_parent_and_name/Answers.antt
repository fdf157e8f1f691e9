use Rattle.witx_base.proofs.ParentAndName.{put-together}
use Rattle.witx_base.proofs.laws.paths_are_parent_and_name.Goals as goal

pub returns : goal.returns
returns c path above name p n = put-together path above name p n
