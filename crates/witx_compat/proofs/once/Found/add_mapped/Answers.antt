use Rattle.std.proofs.Common.{rules}
use Rattle.witx_compat.proofs.OnceLaws.{once_rules}
use Rattle.witx_compat.proofs.once.Found.add_mapped.Goals as goal

pub loop-one-preserved : goal.loop-one-preserved
loop-one-preserved c = search (rules, once_rules)

pub returns-clause-told : goal.returns-clause-told
returns-clause-told c = search rules

pub returns-clause-types : goal.returns-clause-types
returns-clause-types c = search (rules, once_rules)
