use Rattle.std.proofs.Common.{rules}
use Rattle.witx_compat.proofs.Mapping.{mapping_rules}
use Rattle.witx_compat.proofs.halves.put_source.Goals as goal

pub returns : goal.returns
returns c = search (rules, mapping_rules)
