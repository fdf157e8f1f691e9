use Rattle.std.proofs.Common.{◌∷◌, [], ◌++◌, refl, ap, ◌∙◌}
use Rattle.std.specs.Option.{option_to_list}
use Rattle.witx_markdown.specs.Trees.{order_from}
use Rattle.witx_markdown.proofs.Descent.{ahead-begins, last-within, ahead-steps, fewer-ahead}
use Rattle.witx_markdown.proofs.kin.Kin.nodes_from.Goals as goal

pub loop-next-init : goal.loop-next-init
loop-next-init c =
    rw (c.in_ok-push.ensures, c.new-numbers.ensures) (ahead-begins c.args.self.now c.args.node c.first_child-first.result (c.args.node ∷ []) c.put_if.new.ahead.items
    c.first_child-first.ensures.first (c.in_ok-put_if.ensures ∙ rw c.new-ahead.ensures.items refl))

pub next_child-sibling-requires : goal.next_child-sibling-requires
next_child-sibling-requires c = last-within c.args.self.now c.loop-next.numbers c.loop-next.ahead.items _ c.pop.new.self.items c.in-Some.next c.loop-next.invariant c.in-Some.ensures.items

pub first_child-child-requires : goal.first_child-child-requires
first_child-child-requires c = last-within c.args.self.now c.loop-next.numbers c.loop-next.ahead.items _ c.pop.new.self.items c.in-Some.next c.loop-next.invariant c.in-Some.ensures.items

pub loop-next-smaller : goal.loop-next-smaller
loop-next-smaller c =
    fewer-ahead c.args.self.now c.loop-next.numbers c.loop-next.ahead.items (c.args.node ∷ order_from 0 c.args.self.now c.args.node) c.pop.new.self.items
    c.put_if-in-Some-2.new.ahead.items c.in-Some.next c.next_child-sibling.result c.first_child-child.result c.first_child-first.ensures.tree c.loop-next.invariant
    c.in-Some.ensures.items (record { nexts = c.next_child-sibling.ensures; firsts = c.first_child-child.ensures.first })
    (c.in_ok-put_if-3.ensures ∙ ap (λ ns. ns ++ option_to_list c.first_child-child.result) c.in_ok-put_if-2.ensures)

pub loop-next-preserved : goal.loop-next-preserved
loop-next-preserved c =
    rw c.in_ok-push-2.ensures (ahead-steps c.args.self.now c.loop-next.numbers c.loop-next.ahead.items (c.args.node ∷ order_from 0 c.args.self.now c.args.node) c.pop.new.self.items
    c.put_if-in-Some-2.new.ahead.items c.in-Some.next c.next_child-sibling.result c.first_child-child.result c.first_child-first.ensures.tree c.loop-next.invariant
    c.in-Some.ensures.items (record { nexts = c.next_child-sibling.ensures; firsts = c.first_child-child.ensures.first })
    (c.in_ok-put_if-3.ensures ∙ ap (λ ns. ns ++ option_to_list c.first_child-child.result) c.in_ok-put_if-2.ensures))
