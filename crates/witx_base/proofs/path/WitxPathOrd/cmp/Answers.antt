use Rattle.std.proofs.Common.{rules}
use Rattle.witx_base.proofs.path.WitxPathOrd.cmp.Goals as goal

pub returns : goal.returns
returns c = search rules
