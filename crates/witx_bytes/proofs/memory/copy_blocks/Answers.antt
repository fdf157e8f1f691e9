use Rattle.std.proofs.Common.{◌≡◌, ◌∙◌, refl, sym, subst}
use Rattle.std.specs.Ordering.{nat_cmp}
use Rattle.std.specs.List.Sorted.{IsStrictlySortedBy}
use Rattle.std.specs.Map.{keys_of}
use Rattle.witx_bytes.proofs.CopiedBlocks.{copied-all, copied-block}
use Rattle.witx_bytes.proofs.memory.copy_blocks.Goals as goal

pub loop-number-preserved : goal.loop-number-preserved
loop-number-preserved c =
    let start : c.into_iter-number-iterator.result ≡ c.args.blocks.now.entries = c.into_iter-number-iterator.ensures.into_iter_gives ∙ c.iter-number-items.ensures.rest in
    let sorted = subst (λ es. IsStrictlySortedBy nat_cmp (keys_of es)) (sym start) c.iter-number-items.ensures.ordered in
    copied-block _ _ _ _ _ _ _ _ _ sorted c.loop-number.invariant c.in-Some.ensures.steps refl c.in_ok-block.ensures c.in_ok-insert.ensures.entries

pub returns : goal.returns
returns c =
    let start : c.into_iter-number-iterator.result ≡ c.args.blocks.now.entries = c.into_iter-number-iterator.ensures.into_iter_gives ∙ c.iter-number-items.ensures.rest in
    copied-all _ _ _ c.loop-number.invariant c.in-None.ensures.steps.0 ∙ start

pub loop-number-preserved-in_ok-insert : goal.loop-number-preserved-in_ok-insert
loop-number-preserved-in_ok-insert c =
    let start : c.into_iter-number-iterator.result ≡ c.args.blocks.now.entries = c.into_iter-number-iterator.ensures.into_iter_gives ∙ c.iter-number-items.ensures.rest in
    let sorted = subst (λ es. IsStrictlySortedBy nat_cmp (keys_of es)) (sym start) c.iter-number-items.ensures.ordered in
    copied-block _ _ _ _ _ _ _ _ _ sorted c.loop-number.invariant c.in-Some.ensures.steps refl c.in_ok-block.ensures c.in_ok-insert.ensures.entries
