use Rattle.witx_compat.proofs.SameLaws.{same-symmetric}
use Rattle.witx_compat.proofs.laws.same_is_symmetric.Goals as goal

pub returns : goal.returns
returns c = same-symmetric
