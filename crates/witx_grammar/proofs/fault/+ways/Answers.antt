use Rattle.std.proofs.Common.{◌-◌, ◌++◌, length, take, drop}
use Rattle.witx_grammar.specs.Grammar.{Rewrite, grammar, rewrite_view}
use Rattle.witx_grammar.specs.Search.{not_ruled_out, ways}
use Rattle.witx_grammar.proofs.Opened.{loop_done, loop_more, ways_left}
use Rattle.witx_grammar.proofs.Progress.{rest_is}
use Rattle.witx_grammar.proofs.fault.+ways.Goals as goal

pub push_ways-returns-after-loop-production : goal.push_ways-returns-after-loop-production
push_ways-returns-after-loop-production g n c =
    loop_done (λ x. not_ruled_out g.T.PartialEq.eq c.args.read.next (ways g.T.PartialEq.eq g.N.PartialEq.eq (grammar c.args.table.now) (c.args.depth - 1) c.args.read.kind (x.symbols ++ take (length c.args.want.now - 1) (drop 1 c.args.want.now))))
    c.in-Nonterminal.nonterminal c.productions_of-productions.result.now c.loop-production.production-index _ _ _ _ c.loop-production-test.false c.productions_of-productions.ensures
    (ways_left g.T.PartialEq.eq g.N.PartialEq.eq (grammar c.args.table.now) c.args.read.next c.args.depth c.args.read.kind c.args.want.now _ _ c.in-Nonterminal.nonterminal c.if-depth-gt0.true c.if-is_empty.ensures c.in-Nonterminal.is (rest_is c.args.want.now 1))
    (c.loop-production.invariant c.in-Nonterminal.nonterminal)

pub push_ways-loop-production-preserved : goal.push_ways-loop-production-preserved
push_ways-loop-production-preserved g n c = λ (m : g.row.N.Denot).
    loop_more (λ (x : Rewrite g.row.T.Denot g.row.N.Denot g.row.P.Denot). not_ruled_out g.T.PartialEq.eq c.args.read.next (ways g.T.PartialEq.eq g.N.PartialEq.eq (grammar c.args.table.now) (c.args.depth - 1) c.args.read.kind (x.symbols ++ take (length c.args.want.now - 1) (drop 1 c.args.want.now))))
    (rewrite_view m) c.productions_of-productions.result.now c.loop-production.production-index c.production-item.result _ _ _ c.loop-production-test.true c.production-item.is
    c.in_ok-push_production-in-Nonterminal.ensures
    (c.loop-production.invariant m)
