use Rattle.witx_compat.proofs.SameLaws.{same-transitive}
use Rattle.witx_compat.proofs.laws.same_is_transitive.Goals as goal

pub returns : goal.returns
returns c = same-transitive
