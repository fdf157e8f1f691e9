use Rattle.std.proofs.Common.{arith}
use Rattle.witx_ast.specs.Definitions.{definition_tree}
use Rattle.witx_docs.specs.Parts.{module_node}
use Rattle.witx_docs.specs.LaidOut.{module_laid_out}
use Rattle.witx_docs.proofs.DocumentParts.{definitions-left}
use Rattle.witx_docs.proofs.EachSteps.{next-each, all-each, next-fit}
use Rattle.witx_docs.proofs.documents.put_modules.Goals as goal

pub loop-definition-preserved : goal.loop-definition-preserved
loop-definition-preserved c = record {
  nodes = rw c.in_ok-put_module_if.ensures.nodes (next-each (module_node c.args.heading) definition_tree c.loop-definition.branch c.args.parent _ c.args.definitions.now c.loop-definition.definition-index
      c.definition-item.result c.loop-definition-test.true c.definition-item.is c.loop-definition.invariant.nodes);
  numbers = next-fit module_laid_out definition_tree _ c.args.definitions.now c.loop-definition.definition-index c.definition-item.result c.loop-definition-test.true c.definition-item.is
      c.loop-definition.invariant.numbers c.in_ok-put_module_if.ensures.refusal;
  known = definitions-left c.args.names c.args.definitions.now c.loop-definition.definition-index c.definition-item.result c.loop-definition-test.true c.definition-item.is c.loop-definition.invariant.known;
}

pub returns-clause-nodes : goal.returns-clause-nodes
returns-clause-nodes c =
    all-each (module_node c.args.heading) definition_tree c.loop-definition.branch c.args.parent _ c.args.definitions.now c.loop-definition.definition-index (omega arith) c.loop-definition.invariant.nodes
