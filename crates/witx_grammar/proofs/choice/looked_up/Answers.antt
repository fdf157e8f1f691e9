use Rattle.std.proofs.Common.{sym}
use Rattle.witx_grammar.specs.Grammar.{grammar}
use Rattle.witx_grammar.proofs.Choosing.{kept_here}
use Rattle.witx_grammar.proofs.choice.looked_up.Goals as goal

pub returns-in-Some-clause-front : goal.returns-in-Some-clause-front
returns-in-Some-clause-front g c =
    kept_here g.T.PartialEq.eq g.N.PartialEq.eq (grammar c.args.table.now) c.args.known.now c.args.place c.index-known-place.result c.in-Some.kept c.args.tokens.now c.index-tokens-0.result c.index-tokens-1.result
    c.if-place-known.false c.index-known-place.is c.in-Some.is ((g.met.T.Kind.exact c.in-Some.kept.first c.index-tokens-0.result).0 (sym c.if-eq-2.ensures))
    ((g.met.T.Kind.exact c.in-Some.kept.second c.index-tokens-1.result).0 (sym c.if-eq-3.ensures)) c.index-tokens-0.is c.index-tokens-1.is c.if-tokens-lt2.false c.requires
