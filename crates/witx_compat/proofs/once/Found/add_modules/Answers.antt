use Rattle.std.proofs.Common.{rules}
use Rattle.witx_compat.proofs.OnceLaws.{once_rules}
use Rattle.witx_compat.proofs.once.Found.add_modules.Goals as goal

pub loop-one-preserved : goal.loop-one-preserved
loop-one-preserved c = search (rules, once_rules)

pub returns : goal.returns
returns c = search (rules, once_rules)
