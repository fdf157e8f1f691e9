use Rattle.std.proofs.Common.{◌++◌, ap, ◌∙◌}
use Rattle.std.specs.Global.{Vec}
use Rattle.witx_grammar.specs.declared.table.Symbol.{Symbol}
use Rattle.witx_grammar.specs.declared.table.TheConstants.{DEPTH}
use Rattle.witx_grammar.specs.Grammar.{Wants, grammar}
use Rattle.witx_grammar.specs.Search.{firsts}
use Rattle.witx_grammar.proofs.Opened.{loop_more}
use Rattle.witx_grammar.proofs.fault.expected_kinds.Goals as goal

pub loop-want-preserved : goal.loop-want-preserved
loop-want-preserved g c =
    loop_more (firsts g.N.PartialEq.eq (grammar c.args.table.now) DEPTH) (λ (v : Vec (Symbol g.row.T.Denot g.row.N.Denot)). v.items) c.args.wants.now c.loop-want.want-index c.want-item.result _ _ _
    c.loop-want-test.true c.want-item.is
    (c.in_ok-push_firsts.ensures ∙ ap (λ (w : Wants g.row.T.Denot g.row.N.Denot). c.loop-want.out.items ++ firsts g.N.PartialEq.eq (grammar c.args.table.now) DEPTH w) c.as_slice.ensures.value)
    c.loop-want.invariant
