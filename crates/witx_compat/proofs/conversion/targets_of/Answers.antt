use Rattle.std.proofs.Common.{rules}
use Rattle.witx_compat.proofs.Mapping.{convert_rules}
use Rattle.witx_compat.proofs.conversion.targets_of.Goals as goal

pub returns-in-ConstPointer-ConstPointer : goal.returns-in-ConstPointer-ConstPointer
returns-in-ConstPointer-ConstPointer c = search (rules, convert_rules)

pub returns-in-List-List : goal.returns-in-List-List
returns-in-List-List c = search (rules, convert_rules)

pub returns-in-Pointer-Pointer : goal.returns-in-Pointer-Pointer
returns-in-Pointer-Pointer c = search (rules, convert_rules)

pub returns-in_default : goal.returns-in_default
returns-in_default c = search (rules, convert_rules)
