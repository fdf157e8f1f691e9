use Rattle.std.proofs.Common.{rules}
use Rattle.witx_compat.proofs.Gathering.{module_rules}
use Rattle.witx_compat.proofs.modules.put_function.Goals as goal

pub returns : goal.returns
returns c = search (rules, module_rules)
