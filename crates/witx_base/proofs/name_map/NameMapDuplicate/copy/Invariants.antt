use Rattle.witx_base.proofs.EntriesInOrder.{IsCopiedSoFar}
use Rattle.witx_base.proofs.name_map.NameMapDuplicate.copy.Given as goal

abbrev pub invariant-loop-key : goal.invariant-loop-key
invariant-loop-key g l = IsCopiedSoFar g.V.Duplicate.is_copy l.initial.key-iterator l.key-iterator l.copies
