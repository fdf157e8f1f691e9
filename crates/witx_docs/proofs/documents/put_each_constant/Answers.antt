use Rattle.std.proofs.Common.{arith}
use Rattle.witx_docs.specs.Parts.{constant_node}
use Rattle.witx_docs.proofs.EachSteps.{next-each, all-each}
use Rattle.witx_docs.proofs.documents.put_each_constant.Goals as goal

pub loop-constant-preserved : goal.loop-constant-preserved
loop-constant-preserved c =
    rw c.in_ok-put_constant.ensures (next-each constant_node (λ x. x.now) c.loop-constant.branch c.args.node _ c.args.constants.now c.loop-constant.constant-index
    c.constant-item.result c.loop-constant-test.true c.constant-item.is c.loop-constant.invariant)

pub returns : goal.returns
returns c = all-each constant_node (λ x. x.now) c.loop-constant.branch c.args.node _ c.args.constants.now c.loop-constant.constant-index (omega arith) c.loop-constant.invariant
