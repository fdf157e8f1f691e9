use Rattle.std.proofs.Common.{rules}
use Rattle.witx_compat.proofs.Mapping.{convert_rules}
use Rattle.witx_compat.proofs.conversion.common_targets.Goals as goal

pub returns-in-Value-Value : goal.returns-in-Value-Value
returns-in-Value-Value c = search (rules, convert_rules)

pub returns-in_default : goal.returns-in_default
returns-in_default c = search (rules, convert_rules)
