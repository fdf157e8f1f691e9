use Rattle.std.proofs.Common.{arith}
use Rattle.witx_ast.proofs.TreeKinds.{kind_rules}
use Rattle.witx_instructions.proofs.Types.{type_rules}
use Rattle.witx_instructions.proofs.reading.is_one_i32.Goals as goal

pub returns-in-I32 : goal.returns-in-I32
returns-in-I32 c = grind (arith, kind_rules, type_rules)

pub returns-in_default : goal.returns-in_default
returns-in_default c = grind (arith, kind_rules, type_rules)

pub returns-in-Record : goal.returns-in-Record
returns-in-Record c = grind (arith, kind_rules, type_rules)

pub returns-in-List : goal.returns-in-List
returns-in-List c = grind (arith, kind_rules, type_rules)

pub returns-in-Variant : goal.returns-in-Variant
returns-in-Variant c = grind (arith, kind_rules, type_rules)

pub returns-in-Variant-2 : goal.returns-in-Variant-2
returns-in-Variant-2 c = grind (arith, kind_rules, type_rules)

pub returns-in-Variant-3 : goal.returns-in-Variant-3
returns-in-Variant-3 c = grind (arith, kind_rules, type_rules)

pub returns-in-Variant-4 : goal.returns-in-Variant-4
returns-in-Variant-4 c = grind (arith, kind_rules, type_rules)
