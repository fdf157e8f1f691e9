use Rattle.std.proofs.Common.{◌≡◌, ◌+◌, drop, length}
use Rattle.witx_grammar.specs.Prediction.{begins_with, lookahead}
use Rattle.witx_grammar.proofs.choice.fits.Given as goal

abbrev pub invariant-loop-i : goal.invariant-loop-i
invariant-loop-i g l =
    (begins_with g.T.PartialEq.eq (lookahead (drop l.i l.symbols)) (drop l.i l.tokens) ≡ begins_with g.T.PartialEq.eq (lookahead l.symbols) l.tokens)
    × (l.i + length (lookahead (drop l.i l.symbols)) ≡ length (lookahead l.symbols))
