use Rattle.std.proofs.Common.{◌≡◌, ◌∙◌, sym, subst}
use Rattle.std.specs.Ordering.{nat_cmp}
use Rattle.std.specs.Cmp.Lexicographic.{slice_cmp}
use Rattle.std.specs.List.Sorted.{IsStrictlySortedBy}
use Rattle.std.specs.Map.{keys_of}
use Rattle.witx_base.specs.Copies.{IsCopyOfEntries}
use Rattle.witx_base.proofs.EntriesInOrder.{copied-all, copied-entry}
use Rattle.witx_base.proofs.name_map.NameMapDuplicate.copy.Goals as goal

pub loop-key-preserved : goal.loop-key-preserved
loop-key-preserved g c =
    let start : c.into_iter-key-iterator.result ≡ c.self.inside.map.entries = c.into_iter-key-iterator.ensures.into_iter_gives ∙ c.iter-key-items.ensures.rest in
    let sorted = subst (λ es. IsStrictlySortedBy (slice_cmp nat_cmp) (keys_of es)) (sym start) c.iter-key-items.ensures.ordered in
    copied-entry g.V.Duplicate.is_copy _ _ _ _ _ _ _ _ _ sorted c.loop-key.invariant c.in-Some.ensures.steps
    c.in_ok-copy.ensures c.in_ok-copy-2.ensures c.in_ok-insert.ensures.entries

pub returns : goal.returns
returns g c =
    let start : c.into_iter-key-iterator.result ≡ c.self.inside.map.entries = c.into_iter-key-iterator.ensures.into_iter_gives ∙ c.iter-key-items.ensures.rest in
    subst (λ es. IsCopyOfEntries g.V.Duplicate.is_copy es c.loop-key.copies) (start ∙ c.self.view_is)
    (copied-all g.V.Duplicate.is_copy _ _ _ c.loop-key.invariant c.in-None.ensures.steps.0)
