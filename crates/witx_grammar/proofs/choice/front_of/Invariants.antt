use Rattle.std.proofs.Common.{◌≡◌, ◌+◌, drop, length}
use Rattle.witx_grammar.specs.Prediction.{lookahead}
use Rattle.witx_grammar.proofs.choice.front_of.Given as goal

abbrev pub invariant-loop-i : goal.invariant-loop-i
invariant-loop-i g l = l.i + length (lookahead (drop l.i l.symbols)) ≡ length (lookahead l.symbols)
