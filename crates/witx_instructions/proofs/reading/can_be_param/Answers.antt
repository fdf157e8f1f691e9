use Rattle.std.proofs.Common.{arith}
use Rattle.witx_ast.proofs.TreeKinds.{kind_rules}
use Rattle.witx_instructions.proofs.Types.{type_rules}
use Rattle.witx_instructions.proofs.reading.can_be_param.Goals as goal

pub returns-in-Name : goal.returns-in-Name
returns-in-Name c = grind (arith, kind_rules, type_rules)

pub returns-in-Record : goal.returns-in-Record
returns-in-Record c = grind (arith, kind_rules, type_rules)

pub returns-in-Record-2 : goal.returns-in-Record-2
returns-in-Record-2 c = grind (arith, kind_rules, type_rules)

pub returns-in-Record-3 : goal.returns-in-Record-3
returns-in-Record-3 c = grind (arith, kind_rules, type_rules)

pub returns-in-Builtin : goal.returns-in-Builtin
returns-in-Builtin c = grind (arith, kind_rules, type_rules)

pub returns-in-Builtin-2 : goal.returns-in-Builtin-2
returns-in-Builtin-2 c = grind (arith, kind_rules, type_rules)

pub returns-in-Builtin-3 : goal.returns-in-Builtin-3
returns-in-Builtin-3 c = grind (arith, kind_rules, type_rules)

pub returns-in-Builtin-4 : goal.returns-in-Builtin-4
returns-in-Builtin-4 c = grind (arith, kind_rules, type_rules)
