use Rattle.std.proofs.Common.{arith}
use Rattle.witx_ast.proofs.TreeKinds.{kind_rules}
use Rattle.witx_instructions.proofs.Types.{type_rules}
use Rattle.witx_instructions.proofs.reading.record_is_one_i32.Goals as goal

pub returns-in-Bitflags-U64 : goal.returns-in-Bitflags-U64
returns-in-Bitflags-U64 c = grind (arith, kind_rules, type_rules)

pub returns-in-Bitflags-U8 : goal.returns-in-Bitflags-U8
returns-in-Bitflags-U8 c = grind (arith, kind_rules, type_rules)

pub returns-in-Bitflags-U8-2 : goal.returns-in-Bitflags-U8-2
returns-in-Bitflags-U8-2 c = grind (arith, kind_rules, type_rules)
