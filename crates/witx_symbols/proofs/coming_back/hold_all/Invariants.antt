use Rattle.std.proofs.Common.{◌≡◌}
use Rattle.witx_symbols.specs.WordViews.{memory_of}
use Rattle.witx_run.proofs.PairLemmas.{left_pairs}
use Rattle.witx_symbols.proofs.ReturnLemmas.{one_held}
use Rattle.witx_symbols.proofs.coming_back.hold_all.Given as goal

abbrev pub invariant-loop-i : goal.invariant-loop-i
invariant-loop-i l = left_pairs (one_held (memory_of l.cells)) l.words l.symbols l.i ≡ left_pairs (one_held (memory_of l.cells)) l.words l.symbols 0
