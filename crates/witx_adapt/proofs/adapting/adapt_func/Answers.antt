use Rattle.std.proofs.Common.{rules}
use Rattle.witx_adapt.proofs.Lowering.{lowering_rules}
use Rattle.witx_adapt.proofs.adapting.adapt_func.Goals as goal

pub returns-in-Err-clause-unlowerable : goal.returns-in-Err-clause-unlowerable
returns-in-Err-clause-unlowerable c = search (rules, lowering_rules)

pub returns-clause-lowerable : goal.returns-clause-lowerable
returns-clause-lowerable c = search (rules, lowering_rules)
