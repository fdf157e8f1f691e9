use Rattle.std.proofs.Common.{arith}
use Rattle.witx_layout.proofs.Nodes.{node_rules}
use Rattle.witx_layout.proofs.table_lines.lines_of.Goals as goal

pub known_lines-requires : goal.known_lines-requires
known_lines-requires g c = grind (arith, node_rules)

pub put_known_parts-requires : goal.put_known_parts-requires
put_known_parts-requires g c = grind (arith, node_rules)

pub returns-in_ok-copy-in-Name-clause-lines : goal.returns-in_ok-copy-in-Name-clause-lines
returns-in_ok-copy-in-Name-clause-lines g c = grind (arith, node_rules)

pub returns-in_err-put_known_parts-in-Value-clause-too_large : goal.returns-in_err-put_known_parts-in-Value-clause-too_large
returns-in_err-put_known_parts-in-Value-clause-too_large g c = grind (arith, node_rules)
