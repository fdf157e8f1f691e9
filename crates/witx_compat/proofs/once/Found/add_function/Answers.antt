use Rattle.std.proofs.Common.{rules}
use Rattle.witx_compat.proofs.OnceLaws.{once_rules}
use Rattle.witx_compat.proofs.once.Found.add_function.Goals as goal

pub returns-clause-told : goal.returns-clause-told
returns-clause-told c = search rules

pub returns-clause-types : goal.returns-clause-types
returns-clause-types c = search (rules, once_rules)
