use Rattle.std.proofs.Common.{◌≡◌}
use Rattle.witx_run.proofs.PairLemmas.{left_pairs}
use Rattle.witx_symbols.proofs.SymbolReads.{one_same}
use Rattle.witx_symbols.proofs.symbol.+symbol.Given as goal

abbrev pub invariant-all_same-loop-i : goal.invariant-all_same-loop-i
invariant-all_same-loop-i l = left_pairs one_same l.a l.b l.i ≡ left_pairs one_same l.a l.b 0
