use Rattle.std.proofs.Common.{arith}
use Rattle.witx_ast.specs.Items.{item_tree}
use Rattle.witx_docs.specs.Parts.{import_node}
use Rattle.witx_docs.proofs.EachSteps.{next-each, all-each}
use Rattle.witx_docs.proofs.functions.put_imports.Goals as goal

pub loop-definition-preserved : goal.loop-definition-preserved
loop-definition-preserved c =
    rw c.in_ok-put_import.ensures (next-each (import_node c.args.heading) item_tree c.loop-definition.branch c.args.parent _ c.args.definitions.now c.loop-definition.definition-index
    c.definition-item.result c.loop-definition-test.true c.definition-item.is c.loop-definition.invariant)

pub returns : goal.returns
returns c = all-each (import_node c.args.heading) item_tree c.loop-definition.branch c.args.parent _ c.args.definitions.now c.loop-definition.definition-index (omega arith) c.loop-definition.invariant
