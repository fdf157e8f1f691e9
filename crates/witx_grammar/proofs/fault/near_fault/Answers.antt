use Rattle.std.proofs.Common.{ℕ, ◌==◌, List, Some, ap, ◌∙◌}
use Rattle.std.specs.Global.{Vec}
use Rattle.witx_grammar.specs.declared.table.Symbol.{Symbol}
use Rattle.witx_grammar.specs.declared.table.TheConstants.{DEPTH}
use Rattle.witx_grammar.specs.Grammar.{grammar}
use Rattle.witx_grammar.specs.Search.{all_wants, all_ways, not_ruled_out}
use Rattle.witx_grammar.proofs.Opened.{not_stuck, walks_on}
use Rattle.witx_grammar.proofs.fault.near_fault.Goals as goal

pub each-preserved : goal.each-preserved
each-preserved g c =
    walks_on g.T.PartialEq.eq g.N.PartialEq.eq (grammar c.args.table.now) DEPTH (all_wants c.each.wants.items) (all_wants c.each.after.items) (all_wants c.in_ok-more.more.items) c.each.at c.args.tokens.now
    c.index-tokens-at.result c.index-tokens-at-in-each.result _ c.each-test.true c.index-tokens-at.is c.index-tokens-at-in-each.is c.each.invariant.1
    (c.in_ok-more.ensures
    ∙ ap (λ (w : List (Vec (Symbol g.row.T.Denot g.row.N.Denot))). not_ruled_out g.T.PartialEq.eq (Some c.index-tokens-at-in-each.result) (all_ways g.T.PartialEq.eq g.N.PartialEq.eq (grammar c.args.table.now) DEPTH c.index-tokens-at.result (all_wants w))) c.as_slice-in-each.ensures.value)
    (not_stuck g.T.PartialEq.eq g.N.PartialEq.eq (grammar c.args.table.now) c.in_ok-more.more.items (c.if-is_empty.ensures ∙ ap (λ (n : ℕ). n == 0) c.in_ok-more.more.ok.0))
    c.each.invariant.2
