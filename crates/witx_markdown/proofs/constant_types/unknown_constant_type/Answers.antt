use Rattle.std.proofs.Common.{rules}
use Rattle.witx_markdown.proofs.ConstantTypes.{unknown_rules}
use Rattle.witx_markdown.proofs.constant_types.unknown_constant_type.Goals as goal

pub loop-definition-preserved-in_default : goal.loop-definition-preserved-in_default
loop-definition-preserved-in_default c = search (rules, unknown_rules)

pub returns : goal.returns
returns c = search (rules, unknown_rules)
