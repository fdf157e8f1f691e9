use Rattle.std.proofs.Common.{arith}
use Rattle.std.proofs.lemmas.Grind.{common_steps}
use Rattle.witx_adapt.proofs.Gathering.{functions-more, functions-lower}
use Rattle.witx_adapt.proofs.adapting.document_functions.Goals as goal

pub loop-definition-preserved : goal.loop-definition-preserved
loop-definition-preserved c = record {
  functions = functions-more _ _ _ _ _ _ c.loop-definition-test.true c.definition-item.is c.in_ok-push_functions.ensures.functions c.loop-definition.invariant.functions;
  lowerable = functions-lower _ _ _ _ c.loop-definition-test.true c.definition-item.is c.in_ok-push_functions.ensures.lowerable c.loop-definition.invariant.lowerable;
}

pub returns-clause-functions : goal.returns-clause-functions
returns-clause-functions c = grind (arith, common_steps)

pub returns-clause-lowerable : goal.returns-clause-lowerable
returns-clause-lowerable c = grind (arith, common_steps)
