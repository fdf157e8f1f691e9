use Rattle.witx_compat.proofs.SameLaws.{same-exactly}
use Rattle.witx_compat.proofs.laws.same_exactly_where_alike.Goals as goal

pub returns : goal.returns
returns c = same-exactly
