use Rattle.std.proofs.Common.{◌≡◌}
use Rattle.witx_symbols.specs.WordViews.{memory_of}
use Rattle.witx_symbols.proofs.PassLemmas.{left_pointers}
use Rattle.witx_verify.proofs.going_in.pointers_are.Given as goal

abbrev pub invariant-loop-i : goal.invariant-loop-i
invariant-loop-i l = left_pointers (memory_of l.cells) l.pointers l.words l.i ≡ left_pointers (memory_of l.cells) l.pointers l.words 0
