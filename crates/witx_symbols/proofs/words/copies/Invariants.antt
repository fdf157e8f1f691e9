use Rattle.std.proofs.Common.{◌≡◌, take}
use Rattle.witx_symbols.specs.WordViews.{shared_symbols}
use Rattle.witx_symbols.proofs.words.copies.Given as goal

abbrev pub invariant-loop-symbol : goal.invariant-loop-symbol
invariant-loop-symbol l = shared_symbols l.made.items ≡ shared_symbols (take l.symbol-index l.symbols)
