use Rattle.std.proofs.Common.{◌≡◌, ℕ, List, ◌+◌, ◌-◌, ◌<◌, ◌≤◌, length, refl, sym, ◌∙◌, subst, arith, rules}
use Rattle.witx_grammar.specs.declared.table.Step.TheVariants.{Leaf, Node}
use Rattle.witx_values.specs.Language.{stack_of}
use Rattle.witx_values.specs.Texts.{no_lexed, token_at}
use Rattle.witx_values.proofs.Held.{marks_count, kinds_count}
use Rattle.witx_values.proofs.Loop.{Here, at_start, before_leaf, token_there, end_there, before_node, after_node, this_token, step_is, some_left, built}
use Rattle.witx_values.proofs.builder.build.Goals as goal

pub each-init : goal.each-init
each-init g c ls h =
    let lawful = (g.met.A.Actions c.lifetimes (search rules)).lawful in
    let kinds : c.len-at.result ≡ length c.args.tokens.now.kinds.items = search rules in
    let count : length ls + 1 ≡ c.len-at.result = sym (kinds ∙ kinds_count g.A.Actions.language c.args.tokens.now ls h) in
    subst (λ (n : ℕ). Here g.A.Actions.language c.args.start c.args.steps.now ls (length c.args.steps.now) n (stack_of g.A.Actions.value_of c.new-stack.result.items)) count
    (subst (λ (vs : List g.row.A-Value.Denot). Here g.A.Actions.language c.args.start c.args.steps.now ls (length c.args.steps.now) (length ls + 1) (stack_of g.A.Actions.value_of vs)) (sym c.new-stack.ensures.items)
    (at_start g.A.Actions.language lawful c.args.start c.args.steps.now ls (c.requires.derived ls h)))

pub overflow_sub-at : goal.overflow_sub-at
overflow_sub-at g c =
    let lawful = (g.met.A.Actions c.lifetimes (search rules)).lawful in
    let r = c.requires.tokens in
    let here = c.each.invariant r.0 r.1 in
    before_leaf g.A.Actions.language lawful c.args.start c.args.steps.now r.0 (c.requires.derived r.0 r.1)
    c.each.number c.each.at (stack_of g.A.Actions.value_of c.each.stack.items) c.each-test.true here
    (step_is c.args.steps.now c.each.number c.index-steps-number.result Leaf c.each-test.true here.inside c.index-steps-number.is c.in-Leaf.is)

pub each-preserved-then-at-len : goal.each-preserved-then-at-len
each-preserved-then-at-len g c ls h =
    let lawful = (g.met.A.Actions c.lifetimes (search rules)).lawful in
    let here = c.each.invariant ls h in
    let marks : c.each.at - 1 < length c.args.tokens.now.marks.items = search rules in
    let inside : c.each.at - 1 < length ls = omega (arith, marks, marks_count c.args.tokens.now ls h.marked) in
    token_there g.A.Actions.language lawful c.args.start c.args.steps.now ls (c.requires.derived ls h)
    c.each.number c.each.at (token_at ls (c.each.at - 1)) (stack_of g.A.Actions.value_of c.each.stack.items) (stack_of g.A.Actions.value_of c.leaf.new.stack.items) c.each-test.true here
    (step_is c.args.steps.now c.each.number c.index-steps-number.result Leaf c.each-test.true here.inside c.index-steps-number.is c.in-Leaf.is)
    inside (this_token ls (c.each.at - 1) no_lexed inside) (c.in_ok-leaf-in-Leaf.ensures ls h)

pub each-preserved-in-Leaf : goal.each-preserved-in-Leaf
each-preserved-in-Leaf g c ls h =
    let lawful = (g.met.A.Actions c.lifetimes (search rules)).lawful in
    let here = c.each.invariant ls h in
    let marks : length c.args.tokens.now.marks.items ≤ c.each.at - 1 = search rules in
    end_there g.A.Actions.language lawful c.args.start c.args.steps.now ls (c.requires.derived ls h)
    c.each.number c.each.at (stack_of g.A.Actions.value_of c.each.stack.items) c.each-test.true here
    (step_is c.args.steps.now c.each.number c.index-steps-number.result Leaf c.each-test.true here.inside c.index-steps-number.is c.in-Leaf.is)
    (omega (arith, marks, marks_count c.args.tokens.now ls h.marked))

pub perform-requires : goal.perform-requires
perform-requires g c κs =
    let lawful = (g.met.A.Actions c.lifetimes (search rules)).lawful in
    let r = c.requires.tokens in
    let here = c.each.invariant r.0 r.1 in
    let parts =
    before_node g.A.Actions.language lawful c.args.start c.args.steps.now r.0 (c.requires.derived r.0 r.1)
    c.each.number c.each.at c.in-Node.production (stack_of g.A.Actions.value_of c.each.stack.items) c.each-test.true here
    (step_is c.args.steps.now c.each.number c.index-steps-number.result (Node c.in-Node.production) c.each-test.true here.inside c.index-steps-number.is c.in-Node.is) in
    ((refl, tt), (parts, r))

pub each-preserved : goal.each-preserved
each-preserved g c ls h =
    let lawful = (g.met.A.Actions c.lifetimes (search rules)).lawful in
    let here = c.each.invariant ls h in
    after_node g.A.Actions.language lawful c.args.start c.args.steps.now ls (c.requires.derived ls h)
    c.each.number c.each.at c.in-Node.production (stack_of g.A.Actions.value_of c.each.stack.items) (stack_of g.A.Actions.value_of c.perform.new.stack.items) c.each-test.true here
    (step_is c.args.steps.now c.each.number c.index-steps-number.result (Node c.in-Node.production) c.each-test.true here.inside c.index-steps-number.is c.in-Node.is)
    (c.in_ok-perform-in-Node.ensures ls h)

pub unreachable-requires : goal.unreachable-requires
unreachable-requires g c =
    let lawful = (g.met.A.Actions c.lifetimes (search rules)).lawful in
    let r = c.requires.tokens in
    some_left g.A.Actions.language lawful c.args.start c.args.steps.now r.0 (c.requires.derived r.0 r.1)
    g.A.Actions.value_of c.each.stack.items c.each.number c.each.at (omega (arith, c.each-test.false)) (c.each.invariant r.0 r.1)
    (search rules)

pub returns : goal.returns
returns g c ls h =
    let lawful = (g.met.A.Actions c.lifetimes (search rules)).lawful in
    built g.A.Actions.language lawful c.args.start c.args.steps.now ls (c.requires.derived ls h)
    g.A.Actions.value_of c.each.stack.items c.each.number c.each.at (omega (arith, c.each-test.false)) (c.each.invariant ls h)
    c.pop.new.self.items c.in-Some.top c.in-Some.ensures.items
