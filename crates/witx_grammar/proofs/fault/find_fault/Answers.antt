use Rattle.std.proofs.Common.{Some, ℕ, ◌==◌, List, ap, ◌∙◌, arith}
use Rattle.std.specs.Global.{Vec}
use Rattle.witx_grammar.specs.declared.table.Symbol.{Symbol}
use Rattle.witx_grammar.specs.Search.{all_firsts, all_wants, all_ways}
use Rattle.witx_grammar.specs.declared.table.TheConstants.{DEPTH}
use Rattle.witx_grammar.specs.Grammar.{grammar}
use Rattle.witx_grammar.proofs.Opened.{none_ruled_out, search_on, search_stops}
use Rattle.witx_grammar.proofs.fault.find_fault.Goals as goal

pub each-preserved : goal.each-preserved
each-preserved g c = (
  omega (arith, c.each-test.true),
  search_on g.T.PartialEq.eq g.N.PartialEq.eq (grammar c.args.table.now) DEPTH c.each.wants.items c.in_ok-after.after.items c.each.at c.args.tokens.now c.index-tokens-at.result _
      c.each-test.true c.index-tokens-at.is (c.in_ok-after.ensures
      ∙ none_ruled_out g.T.PartialEq.eq _
      ∙ ap (λ (w : List (Vec (Symbol g.row.T.Denot g.row.N.Denot))). all_ways g.T.PartialEq.eq g.N.PartialEq.eq (grammar c.args.table.now) DEPTH c.index-tokens-at.result (all_wants w)) c.as_slice.ensures.value)
      (c.if-is_empty.ensures ∙ ap (λ (n : ℕ). n == 0) c.in_ok-after.after.ok.0) c.each.invariant.1,
)

pub returns-then-is_empty : goal.returns-then-is_empty
returns-then-is_empty g c =
    ap (λ (ks : List g.row.T.Denot). Some (record { at = c.each.at; expected = ks }))
    (c.in_ok-expected.ensures ∙ ap (λ (w : List (Vec (Symbol g.row.T.Denot g.row.N.Denot))). all_firsts g.N.PartialEq.eq (grammar c.args.table.now) DEPTH (all_wants w)) c.as_slice-then-is_empty.ensures.value)
    ∙ search_stops g.T.PartialEq.eq g.N.PartialEq.eq (grammar c.args.table.now) DEPTH c.each.wants.items c.in_ok-after.after.items c.each.at c.args.tokens.now c.index-tokens-at.result _
    c.each-test.true c.index-tokens-at.is (c.in_ok-after.ensures
    ∙ none_ruled_out g.T.PartialEq.eq _
    ∙ ap (λ (w : List (Vec (Symbol g.row.T.Denot g.row.N.Denot))). all_ways g.T.PartialEq.eq g.N.PartialEq.eq (grammar c.args.table.now) DEPTH c.index-tokens-at.result (all_wants w)) c.as_slice.ensures.value)
    (c.if-is_empty.ensures ∙ ap (λ (n : ℕ). n == 0) c.in_ok-after.after.ok.0) c.each.invariant.1
