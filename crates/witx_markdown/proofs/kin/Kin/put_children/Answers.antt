use Rattle.std.proofs.Common.{Some}
use Rattle.witx_markdown.proofs.Descent.{Childs, childs-next, children-begin, child-more, fewer-children}
use Rattle.witx_markdown.proofs.kin.Kin.put_children.Goals as goal

pub loop-at-init : goal.loop-at-init
loop-at-init c = record {
  child = childs-next c.args.self.now c.args.node 0 c.first_child-at.result c.first_child-at.ensures.first;
  found = children-begin c.args.self.now c.args.node c.first_child-at.result c.args.numbers.now c.first_child-at.ensures.first;
}

pub loop-at-smaller : goal.loop-at-smaller
loop-at-smaller c =
    let child : Childs c.args.self.now c.args.node (Some c.in-Some.child) = rw c.in-Some.is at c.loop-at.invariant.child in
    rw c.in-Some.is (fewer-children c.args.self.now c.args.node c.in-Some.child c.next_child-at.result child.0 child.1 (c.next_child-at.ensures c.args.node child.1))

pub loop-at-preserved : goal.loop-at-preserved
loop-at-preserved c =
    let child : Childs c.args.self.now c.args.node (Some c.in-Some.child) = rw c.in-Some.is at c.loop-at.invariant.child in
    record {
      child = childs-next c.args.self.now c.args.node _ c.next_child-at.result (c.next_child-at.ensures c.args.node child.1);
      found = rw c.in_ok-push.ensures (child-more c.args.self.now c.args.node c.in-Some.child c.next_child-at.result c.loop-at.numbers _ child.0 child.1
          (c.next_child-at.ensures c.args.node child.1) (rw c.in-Some.is at c.loop-at.invariant.found));
    }
