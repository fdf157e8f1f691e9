use Rattle.std.proofs.Common.{rules, ◌-◌, ◌++◌, length, take, drop, ap, ◌∙◌}
use Rattle.witx_grammar.specs.Grammar.{Rewrite, Wants, grammar, rewrite_view}
use Rattle.witx_grammar.specs.Search.{firsts}
use Rattle.witx_grammar.proofs.Opened.{loop_done, loop_more, firsts_opened}
use Rattle.witx_grammar.proofs.Progress.{rest_is}
use Rattle.witx_grammar.proofs.fault.+push_firsts.Goals as goal

pub returns-after-loop-production : goal.returns-after-loop-production
returns-after-loop-production g n c =
    loop_done (λ x. firsts g.N.PartialEq.eq (grammar c.args.table.now) (c.args.depth - 1) (x.symbols ++ take (length c.args.want.now - 1) (drop 1 c.args.want.now)))
    c.in-Nonterminal.nonterminal c.productions_of-productions.result.now c.loop-production.production-index _ _ _ _ c.loop-production-test.false c.productions_of-productions.ensures
    (firsts_opened g.T.PartialEq.eq g.N.PartialEq.eq (grammar c.args.table.now) c.args.depth c.args.want.now _ _ c.in-Nonterminal.nonterminal c.if-depth-gt0.true c.if-is_empty.ensures c.in-Nonterminal.is (rest_is c.args.want.now 1))
    (c.loop-production.invariant c.in-Nonterminal.nonterminal)

pub loop-production-preserved : goal.loop-production-preserved
loop-production-preserved g n c = λ (m : g.row.N.Denot).
    loop_more (λ (x : Rewrite g.row.T.Denot g.row.N.Denot g.row.P.Denot). firsts g.N.PartialEq.eq (grammar c.args.table.now) (c.args.depth - 1) (x.symbols ++ take (length c.args.want.now - 1) (drop 1 c.args.want.now)))
    (rewrite_view m) c.productions_of-productions.result.now c.loop-production.production-index c.production-item.result _ _ _ c.loop-production-test.true c.production-item.is
    (c.in_ok-push_firsts-in-Nonterminal.ensures
    ∙ ap (λ (w : Wants g.row.T.Denot g.row.N.Denot). c.loop-production.out.items ++ firsts g.N.PartialEq.eq (grammar c.args.table.now) (c.args.depth - 1) w) (c.as_slice.ensures.value ∙ c.in_ok-one-in-Nonterminal.ensures))
    (c.loop-production.invariant m)

pub returns-in_ok-push-in-Terminal : goal.returns-in_ok-push-in-Terminal
returns-in_ok-push-in-Terminal g n c = search rules
