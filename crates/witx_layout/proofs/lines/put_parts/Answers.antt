use Rattle.std.proofs.Common.{arith}
use Rattle.witx_layout.proofs.Written.{line_rules}
use Rattle.witx_layout.proofs.lines.put_parts.Goals as goal

pub returns-in_ok-put_flags-in-Bitflags-clause-lines : goal.returns-in_ok-put_flags-in-Bitflags-clause-lines
returns-in_ok-put_flags-in-Bitflags-clause-lines c = grind (arith, line_rules)

pub returns-in-Tuple : goal.returns-in-Tuple
returns-in-Tuple c = grind (arith, line_rules)
