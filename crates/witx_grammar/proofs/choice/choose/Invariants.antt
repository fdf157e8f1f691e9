use Rattle.std.proofs.Common.{◌≡◌, map, drop}
use Rattle.witx_grammar.specs.Grammar.{rewrite_view}
use Rattle.witx_grammar.specs.Prediction.{candidate, pick}
use Rattle.witx_grammar.proofs.choice.choose.Given as goal

abbrev pub invariant-loop-production : goal.invariant-loop-production
invariant-loop-production g l =
    pick g.T.PartialEq.eq (map candidate (map (rewrite_view l.fn.wanted) (drop l.production-index l.productions))) l.tokens
    ≡ pick g.T.PartialEq.eq (map candidate (map (rewrite_view l.fn.wanted) l.productions)) l.tokens
