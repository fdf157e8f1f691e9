use Rattle.std.proofs.Common.{rules}
use Rattle.witx_compat.proofs.Mapping.{compatible_rules}
use Rattle.witx_compat.proofs.functions.all_compatible.Goals as goal

pub loop-one-preserved : goal.loop-one-preserved
loop-one-preserved c = search (rules, compatible_rules)

pub returns : goal.returns
returns c = search (rules, compatible_rules)

pub returns-then-not-full_compat : goal.returns-then-not-full_compat
returns-then-not-full_compat c = search (rules, compatible_rules)
