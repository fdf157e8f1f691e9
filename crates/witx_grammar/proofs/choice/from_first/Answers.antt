use Rattle.std.proofs.Common.{◌≤◌, length, List, sym, subst, ◌∙◌, arith}
use Rattle.witx_grammar.specs.declared.table.Production.{Production}
use Rattle.witx_grammar.specs.Choices.{MayFit}
use Rattle.witx_grammar.proofs.Lookahead.{none_is, some_is}
use Rattle.witx_grammar.proofs.Progress.{rest_is}
use Rattle.witx_grammar.proofs.Choosing.{one_ruled_out, found_first}
use Rattle.witx_grammar.proofs.choice.from_first.Goals as goal

pub loop-i-preserved : goal.loop-i-preserved
loop-i-preserved g c =
    let low : c.min-front.result ≤ length c.args.next.now = omega (arith, c.min-front.ensures) in
    one_ruled_out g.T.PartialEq.eq c.args.next.now c.args.productions.now c.loop-i.i c.min-front.result c.index-productions-i.result c.loop-i-test.true c.index-productions-i.is low
    (none_is _ _ _ c.fits.ensures c.if-is_some.ensures) c.loop-i.invariant

pub returns-then-is_some-clause-front : goal.returns-then-is_some-clause-front
returns-then-is_some-clause-front g c =
    let two = c.requires.two in
    let least = c.min-front.ensures in
    subst (λ (ps : List (Production g.row.T.Denot g.row.N.Denot g.row.P.Denot)). MayFit g.T.PartialEq.eq c.args.next.now c.front_of.result ps) (sym (rest_is c.args.productions.now c.loop-i.i))
    (found_first g.T.PartialEq.eq c.args.next.now c.args.productions.now c.loop-i.i c.min-front.result c.front_of.result c.index-productions-i.result c.loop-i-test.true c.index-productions-i.is
    (λ many. omega (arith, least, two, many)) (λ few. omega (arith, least, two, few))
    (sym (some_is _ _ _ c.fits.ensures) ∙ sym c.if-is_some.ensures) c.front_of.ensures)

pub returns-clause-front : goal.returns-clause-front
returns-clause-front g c = tt
