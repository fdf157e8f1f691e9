use Rattle.std.proofs.Common.{arith}
use Rattle.witx_ast.specs.Items.{item_tree}
use Rattle.witx_markdown.specs.NamesKnown.{NamesKnown, InItem}
use Rattle.witx_docs.specs.Parts.{func_node}
use Rattle.witx_docs.specs.LaidOut.{item_laid_out}
use Rattle.witx_docs.proofs.EachSteps.{next-each, all-each, next-fit, left-hold}
use Rattle.witx_docs.proofs.functions.put_funcs.Goals as goal

pub loop-definition-preserved : goal.loop-definition-preserved
loop-definition-preserved c = record {
  nodes = rw c.in_ok-put_item.ensures.nodes (next-each (func_node c.args.heading) item_tree c.loop-definition.branch c.args.parent _ c.args.definitions.now c.loop-definition.definition-index
      c.definition-item.result c.loop-definition-test.true c.definition-item.is c.loop-definition.invariant.nodes);
  numbers = next-fit item_laid_out item_tree _ c.args.definitions.now c.loop-definition.definition-index c.definition-item.result c.loop-definition-test.true c.definition-item.is
      c.loop-definition.invariant.numbers c.in_ok-put_item.ensures.refusal;
  known = left-hold (InItem (NamesKnown c.args.names)) item_tree c.args.definitions.now c.loop-definition.definition-index c.definition-item.result c.loop-definition-test.true c.definition-item.is c.loop-definition.invariant.known;
}

pub returns-clause-nodes : goal.returns-clause-nodes
returns-clause-nodes c =
    all-each (func_node c.args.heading) item_tree c.loop-definition.branch c.args.parent _ c.args.definitions.now c.loop-definition.definition-index (omega arith) c.loop-definition.invariant.nodes
