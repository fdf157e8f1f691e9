use Rattle.std.proofs.Common.{◌≡◌}
use Rattle.witx_symbols.specs.OutcomeViews.{words_of}
use Rattle.witx_symbols.specs.WordViews.{memory_of}
use Rattle.witx_symbols.proofs.PassLemmas.{left_passes, pointer_trees}
use Rattle.witx_verify.proofs.going_in.passes.Given as goal

abbrev pub invariant-loop-i : goal.invariant-loop-i
invariant-loop-i l =
    left_passes (memory_of l.cells) (pointer_trees l.pointers) l.params l.arguments l.i (words_of l.rest)
    ≡ left_passes (memory_of l.cells) (pointer_trees l.pointers) l.params l.arguments 0 (words_of l.words)
