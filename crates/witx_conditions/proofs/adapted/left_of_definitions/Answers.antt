use Rattle.std.proofs.Common.{rules, refl, ◌<◌, ◌∷◌, []}
use Rattle.witx_ast.specs.Definitions.{definition_tree}
use Rattle.witx_traces.specs.Traces.{function_number}
use Rattle.witx_conditions.proofs.Counting.{definition-first, left-all, left-less, left-next}
use Rattle.witx_conditions.proofs.adapted.left_of_definitions.Goals as goal

pub loop-definition-preserved : goal.loop-definition-preserved
loop-definition-preserved c = record {
  left = left-next definition_tree function_number definition-first c.args.definitions.now c.args.number c.loop-definition.definition-index c.loop-definition.left c.in_ok-left.left
      c.definition-item.result c.loop-definition-test.true c.definition-item.is c.loop-definition.invariant.left (search rules);
}

pub returns-in_err-left-clause-less : goal.returns-in_err-left-clause-less
returns-in_err-left-clause-less c =
    let less : c.loop-definition.left < function_number (definition_tree c.definition-item.result ∷ []) = search rules in
    λ _. left-less definition_tree function_number definition-first c.args.definitions.now c.args.number c.loop-definition.definition-index c.loop-definition.left c.definition-item.result
    c.loop-definition-test.true c.definition-item.is c.loop-definition.invariant.left less

pub returns-clause-left : goal.returns-clause-left
returns-clause-left c =
    left-all definition_tree function_number c.args.definitions.now c.args.number c.loop-definition.definition-index c.loop-definition.left c.loop-definition-test.false refl
    c.loop-definition.invariant.left
