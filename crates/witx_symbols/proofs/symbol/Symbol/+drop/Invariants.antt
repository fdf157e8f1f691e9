use Rattle.std.proofs.Common.{◌≤◌}
use Rattle.witx_symbols.proofs.LettingGo.{count}
use Rattle.witx_symbols.proofs.symbol.Symbol.TheLaws.{the_size}
use Rattle.witx_symbols.proofs.symbol.Symbol.+drop.Given as goal

abbrev pub invariant-loop-self : goal.invariant-loop-self
invariant-loop-self l = the_size l.self ≤ the_size l.initial.self

abbrev pub decreases-loop-self : goal.decreases-loop-self
decreases-loop-self l = count l.self
