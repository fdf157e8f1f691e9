use Rattle.witx_base.proofs.ParentAndName.{parentless}
use Rattle.witx_base.proofs.laws.paths_without_parent_are_nameless.Goals as goal

pub returns : goal.returns
returns c path e = parentless path e
