use Rattle.std.proofs.Common.{length, sym, ap, ◌∙◌, arith}
use Rattle.witx_grammar.specs.Prediction.{lookahead}
use Rattle.witx_grammar.proofs.Lookahead.{no_more, at_nonterminal, at_end, at_other, at_same, not_true, not_false, counted_at_nonterminal, counted_at_terminal, counted_at_end, is_found, is_lost}
use Rattle.witx_grammar.proofs.choice.fits.Goals as goal
use Rattle.witx_grammar.proofs.choice.fits.Goals.{then-i-tokens-via-then-i-tokens, then-i-tokens-via-else-i-tokens+then-ne}

pub returns-in-Nonterminal : goal.returns-in-Nonterminal
returns-in-Nonterminal g c =
    let none = counted_at_nonterminal c.args.symbols.now c.loop-i.i c.index-symbols-i.result c.in-Nonterminal._nonterminal c.loop-i-test.true
    (sym c.index-symbols-i.is ∙ c.in-Nonterminal.is) in
    is_found _ (length (lookahead c.args.symbols.now)) c.loop-i.i
    (sym c.loop-i.invariant.0
    ∙ at_nonterminal g.T.PartialEq.eq c.args.symbols.now c.args.tokens.now c.loop-i.i c.index-symbols-i.result c.in-Nonterminal._nonterminal c.loop-i-test.true
    (sym c.index-symbols-i.is ∙ c.in-Nonterminal.is))
    (let h = c.loop-i.invariant.1 in omega (arith, h, none))

pub returns-then-i-tokens : goal.returns-then-i-tokens
returns-then-i-tokens g c =
    elim c.then-i-tokens.branch [
      | then-i-tokens-via-then-i-tokens w ↦
          is_lost _ _ (sym c.loop-i.invariant.0
          ∙ at_end g.T.PartialEq.eq c.args.symbols.now c.args.tokens.now c.loop-i.i c.index-symbols-i.result c.in-Terminal.kind c.loop-i-test.true
          (sym c.index-symbols-i.is ∙ c.in-Terminal.is) w.if-i-tokens.true)
      | then-i-tokens-via-else-i-tokens+then-ne w ↦
          is_lost _ _ (sym c.loop-i.invariant.0
          ∙ at_other g.T.PartialEq.eq c.args.symbols.now c.args.tokens.now c.loop-i.i c.index-symbols-i.result c.in-Terminal.kind w.index-tokens-i.result c.loop-i-test.true
          (sym c.index-symbols-i.is ∙ c.in-Terminal.is) w.if-i-tokens.false (ap (λ x. g.T.PartialEq.eq c.in-Terminal.kind x) (sym w.index-tokens-i.is) ∙ not_true _ w.if-ne.ensures))
    ]

pub loop-i-preserved : goal.loop-i-preserved
loop-i-preserved g c = (
  sym (at_same g.T.PartialEq.eq c.args.symbols.now c.args.tokens.now c.loop-i.i c.index-symbols-i.result c.in-Terminal.kind c.index-tokens-i.result c.loop-i-test.true
      (sym c.index-symbols-i.is ∙ c.in-Terminal.is) c.if-i-tokens.false (ap (λ x. g.T.PartialEq.eq c.in-Terminal.kind x) (sym c.index-tokens-i.is) ∙ not_false _ c.if-ne.ensures))
      ∙ c.loop-i.invariant.0,
  counted_at_terminal c.args.symbols.now c.loop-i.i c.index-symbols-i.result c.in-Terminal.kind _ c.loop-i-test.true
      (sym c.index-symbols-i.is ∙ c.in-Terminal.is) c.loop-i.invariant.1,
)

pub returns : goal.returns
returns g c =
    is_found _ (length (lookahead c.args.symbols.now)) (length c.args.symbols.now)
    (sym c.loop-i.invariant.0 ∙ no_more g.T.PartialEq.eq c.args.symbols.now c.args.tokens.now c.loop-i.i c.loop-i-test.false)
    (counted_at_end c.args.symbols.now c.loop-i.i c.loop-i-test.false c.loop-i.invariant.1)
