use Rattle.std.proofs.Common.{arith}
use Rattle.witx_ast.proofs.TreeKinds.{kind_rules}
use Rattle.witx_instructions.proofs.Instructions.{step_rules}
use Rattle.witx_lowering.proofs.lowering.lower_unnamed.Goals as goal

pub returns-in-Builtin : goal.returns-in-Builtin
returns-in-Builtin c = grind (arith, kind_rules, step_rules)

pub returns-in-Pointer : goal.returns-in-Pointer
returns-in-Pointer c = grind (arith, kind_rules, step_rules)

pub returns-in-ConstPointer : goal.returns-in-ConstPointer
returns-in-ConstPointer c = grind (arith, kind_rules, step_rules)

pub returns-in-List : goal.returns-in-List
returns-in-List c = grind (arith, kind_rules, step_rules)
