use Rattle.std.proofs.Common.{rules}
use Rattle.witx_compat.proofs.Tables.{table_rules}
use Rattle.witx_compat.proofs.table.put_first.Goals as goal

pub returns : goal.returns
returns c = search (rules, table_rules)
