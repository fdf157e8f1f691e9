use Rattle.std.proofs.Common.{◌≡◌, map, length}
use Rattle.witx_instructions.specs.Views.{event_of}
use Rattle.witx_run.proofs.EndLemmas.{Sofar}
use Rattle.witx_run.proofs.matching.ends_of_blocks.Given as goal

abbrev pub invariant-loop-made : goal.invariant-loop-made
invariant-loop-made l = length l.ends.items ≡ l._made

abbrev pub invariant-loop-i : goal.invariant-loop-i
invariant-loop-i l = Sofar (map event_of l.events) l.i l.ends.items l.left.items
