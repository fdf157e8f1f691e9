use Rattle.std.proofs.Common.{rules}
use Rattle.witx_adapt.proofs.Answered.{answer_rules}
use Rattle.witx_adapt.proofs.adapting.document_parts.Goals as goal

pub returns-clause-faithful : goal.returns-clause-faithful
returns-clause-faithful c = search (rules, answer_rules)
