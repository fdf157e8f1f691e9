use Rattle.std.proofs.Common.{arith, map}
use Rattle.witx_ast.specs.Definitions.{definition_tree}
use Rattle.witx_markdown.specs.Constants.{constants_in}
use Rattle.witx_docs.specs.ByType.{standing}
use Rattle.witx_docs.specs.Parts.{typename_node}
use Rattle.witx_docs.proofs.EachSteps.{all-each}
use Rattle.witx_docs.proofs.DocumentParts.{definitions-left, other-nodes, other-numbers, this-fits, this-typename}
use Rattle.witx_docs.proofs.documents.put_typenames.Goals as goal

pub loop-definition-preserved-in_default : goal.loop-definition-preserved-in_default
loop-definition-preserved-in_default c = record {
  nodes = other-nodes c.args.heading (constants_in (map definition_tree c.args.definitions.now)) c.loop-definition.branch c.args.parent _ c.args.definitions.now c.loop-definition.definition-index
      c.definition-item.result c.loop-definition-test.true c.definition-item.is (λ n e. c.in_default.not-Typename n e) c.loop-definition.invariant.nodes;
  numbers = other-numbers _ c.args.definitions.now c.loop-definition.definition-index c.definition-item.result c.loop-definition-test.true c.definition-item.is
      (λ n e. c.in_default.not-Typename n e) c.loop-definition.invariant.numbers;
  known = definitions-left c.args.names c.args.definitions.now c.loop-definition.definition-index c.definition-item.result c.loop-definition-test.true c.definition-item.is c.loop-definition.invariant.known;
}

pub loop-definition-preserved : goal.loop-definition-preserved
loop-definition-preserved c =
    let own = standing c.args.constants.now.entries c.in-Typename.named.value.name in
    record {
      nodes = rw (c.in_ok-put_typename.ensures.nodes, c.deref.ensures)
          (this-typename c.args.heading (constants_in (map definition_tree c.args.definitions.now)) own c.loop-definition.branch c.args.parent _ c.args.definitions.now
          c.loop-definition.definition-index c.definition-item.result c.in-Typename.named c.loop-definition-test.true c.definition-item.is c.in-Typename.is
          (c.requires.constants c.in-Typename.named.value.name) c.loop-definition.invariant.nodes);
      numbers = this-fits _ c.args.definitions.now c.loop-definition.definition-index c.definition-item.result c.in-Typename.named c.loop-definition-test.true c.definition-item.is
          c.in-Typename.is c.loop-definition.invariant.numbers (rw c.deref.ensures at c.in_ok-put_typename.ensures.refusal);
      known = definitions-left c.args.names c.args.definitions.now c.loop-definition.definition-index c.definition-item.result c.loop-definition-test.true c.definition-item.is c.loop-definition.invariant.known;
    }

pub returns-clause-nodes : goal.returns-clause-nodes
returns-clause-nodes c =
    all-each (typename_node c.args.heading (constants_in (map definition_tree c.args.definitions.now))) definition_tree c.loop-definition.branch c.args.parent _ c.args.definitions.now c.loop-definition.definition-index
    (omega arith) c.loop-definition.invariant.nodes
