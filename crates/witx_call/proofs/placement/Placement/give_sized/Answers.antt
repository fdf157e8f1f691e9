use Rattle.std.proofs.Common.{◌≡◌, ◌+◌, ◌∙◌, ap, sym, refl, arith, rules}
use Rattle.witx_ast.specs.Plain.{plain}
use Rattle.witx_ast.specs.Views.{named_tree}
use Rattle.witx_bytes.specs.ByteMachine.{range_size}
use Rattle.witx_call.proofs.PlacementLemmas.{next-behind}
use Rattle.witx_call.proofs.placement.Placement.give_sized.Goals as goal

pub invariant_of-self-2-clause-stated : goal.invariant_of-self-2-clause-stated
invariant_of-self-2-clause-stated c =
    let same : c.in_ok-ty.ty.value ≡ c.args.ty.now.value = search rules in
    next-behind c.args.self.now.taken.items c.push.new.self.items _ c.args.len (c.args.self.now.next + c.args.len) c.in_ok-push.ensures.items
    (c.requires.size ∙ ap (λ v. range_size (plain (named_tree v))) (sym same)) refl

pub invariant_of-self-2-clause-low : goal.invariant_of-self-2-clause-low
invariant_of-self-2-clause-low c = omega (arith, c.args.self.now.low)

pub invariant_of-self-2-clause-high : goal.invariant_of-self-2-clause-high
invariant_of-self-2-clause-high c = omega (arith, c.if-end-gt-LIMIT.false)
