use Rattle.std.proofs.Common.{arith}
use Rattle.witx_ast.proofs.TreeKinds.{kind_rules}
use Rattle.witx_instructions.proofs.Types.{type_rules}
use Rattle.witx_instructions.proofs.reading.datatype_word.Goals as goal

pub returns-in-Builtin : goal.returns-in-Builtin
returns-in-Builtin c = grind (arith, kind_rules, type_rules)

pub returns-in-Record : goal.returns-in-Record
returns-in-Record c = grind (arith, kind_rules, type_rules)

pub returns-in-Variant : goal.returns-in-Variant
returns-in-Variant c = grind (arith, kind_rules, type_rules)

pub returns-in-Handle : goal.returns-in-Handle
returns-in-Handle c = grind (arith, kind_rules, type_rules)

pub returns-in-Handle-2 : goal.returns-in-Handle-2
returns-in-Handle-2 c = grind (arith, kind_rules, type_rules)

pub returns-in-Handle-3 : goal.returns-in-Handle-3
returns-in-Handle-3 c = grind (arith, kind_rules, type_rules)

pub returns-in-List : goal.returns-in-List
returns-in-List c = grind (arith, kind_rules, type_rules)
