use Rattle.std.proofs.Common.{◌≡◌, ◌+◌, ◌-◌, ◌<◌, length, arith, rules}
use Rattle.witx_markdown.specs.Families.{AreLinked}
use Rattle.witx_markdown.proofs.Descent.{link-none, link-some, parent-within}
use Rattle.witx_markdown.proofs.kin.link.Goals as goal

pub offset_bounds-first-parent : goal.offset_bounds-first-parent
offset_bounds-first-parent c =
    let within : c.in-Some.parent < length c.loop-node.first = parent-within c.args.parents.now c.loop-node.first c.loop-node.next (c.loop-node.node - 1) c.loop-node.node c.in-Some.parent
    c.requires.tree (omega arith) c.in-Some.is c.loop-node.invariant in search rules

pub slice_copy_out-next : goal.slice_copy_out-next
slice_copy_out-next c = parent-within c.args.parents.now c.loop-node.first c.loop-node.next (c.loop-node.node - 1) c.loop-node.node c.in-Some.parent
    c.requires.tree (omega arith) c.in-Some.is c.loop-node.invariant

pub offset_bounds-first-parent-in-Some : goal.offset_bounds-first-parent-in-Some
offset_bounds-first-parent-in-Some c =
    let within : c.in-Some.parent < length c.loop-node.first = parent-within c.args.parents.now c.loop-node.first c.loop-node.next (c.loop-node.node - 1) c.loop-node.node c.in-Some.parent
    c.requires.tree (omega arith) c.in-Some.is c.loop-node.invariant in search rules

pub bounds-first-parent : goal.bounds-first-parent
bounds-first-parent c = parent-within c.args.parents.now c.loop-node.first c.loop-node.next (c.loop-node.node - 1) c.loop-node.node c.in-Some.parent
    c.requires.tree (omega arith) c.in-Some.is c.loop-node.invariant

pub loop-node-preserved-in-Some : goal.loop-node-preserved-in-Some
loop-node-preserved-in-Some c =
    let e : c.loop-node.node ≡ (c.loop-node.node - 1) + 1 = omega arith in
    let h : AreLinked c.args.parents.now ((c.loop-node.node - 1) + 1) c.loop-node.first c.loop-node.next = rw (← e) c.loop-node.invariant in
    link-some c.args.parents.now c.loop-node.first c.loop-node.next (c.loop-node.node - 1) c.in-Some.parent c.requires.tree (omega arith) c.in-Some.is h

pub loop-node-preserved : goal.loop-node-preserved
loop-node-preserved c =
    let e : c.loop-node.node ≡ (c.loop-node.node - 1) + 1 = omega arith in
    let h : AreLinked c.args.parents.now ((c.loop-node.node - 1) + 1) c.loop-node.first c.loop-node.next = rw (← e) c.loop-node.invariant in
    link-none c.args.parents.now c.loop-node.first c.loop-node.next (c.loop-node.node - 1) (omega arith) (search rules) h
