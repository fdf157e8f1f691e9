use Rattle.std.proofs.Common.{Option}
use Rattle.std.specs.Prelude.{IfSome}
use Rattle.std.proofs.lemmas.List.Elements.{All-set}
use Rattle.witx_grammar.specs.declared.known.Known.{Known}
use Rattle.witx_grammar.specs.Grammar.{grammar}
use Rattle.witx_grammar.specs.Choices.{IsKnown}
use Rattle.witx_grammar.proofs.Choosing.{found_at, found_here, may_fit_here}
use Rattle.witx_grammar.proofs.choice.remaining.Goals as goal

pub returns-then-place-len-clause-known : goal.returns-then-place-len-clause-known
returns-then-place-len-clause-known g c =
    All-set (λ (o : Option (Known g.row.T.Denot g.row.N.Denot g.row.P.Denot)). IfSome o (IsKnown g.T.PartialEq.eq g.N.PartialEq.eq (grammar c.args.table.now)))
    c.args.known.now.items c.place_of-place.result _
    (found_at g.T.PartialEq.eq g.N.PartialEq.eq (grammar c.args.table.now) c.args.wanted c.index-tokens-0.result c.index-tokens-1.result c.from_first-found.result.1 c.args.tokens.now
    c.from_first-found.result.0.now c.productions_of-2.result.now c.if-tokens-lt2.false c.index-tokens-0.is c.index-tokens-1.is c.productions_of-2.ensures c.from_first-found.ensures.alike
    c.from_first-found.ensures.front)
    c.requires.known

pub returns-then-place-len-clause-rest : goal.returns-then-place-len-clause-rest
returns-then-place-len-clause-rest g c =
    found_here g.T.PartialEq.eq g.N.PartialEq.eq (grammar c.args.table.now) c.args.wanted c.args.tokens.now
    c.from_first-found.result.0.now c.productions_of-2.result.now c.productions_of-2.ensures c.from_first-found.ensures.alike

pub returns-then-place-len-clause-front : goal.returns-then-place-len-clause-front
returns-then-place-len-clause-front g c =
    may_fit_here g.T.PartialEq.eq g.N.PartialEq.eq (grammar c.args.table.now) c.from_first-found.result.1 c.args.tokens.now c.from_first-found.result.0.now c.from_first-found.ensures.front

pub returns-clause-rest : goal.returns-clause-rest
returns-clause-rest g c =
    found_here g.T.PartialEq.eq g.N.PartialEq.eq (grammar c.args.table.now) c.args.wanted c.args.tokens.now
    c.from_first-found.result.0.now c.productions_of-2.result.now c.productions_of-2.ensures c.from_first-found.ensures.alike

pub returns-clause-front : goal.returns-clause-front
returns-clause-front g c =
    may_fit_here g.T.PartialEq.eq g.N.PartialEq.eq (grammar c.args.table.now) c.from_first-found.result.1 c.args.tokens.now c.from_first-found.result.0.now c.from_first-found.ensures.front
