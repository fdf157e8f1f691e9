use Rattle.std.proofs.Common.{◌++◌, sym, ap, ◌∙◌}
use Rattle.std.specs.Global.{Vec}
use Rattle.witx_grammar.specs.declared.table.Symbol.{Symbol}
use Rattle.witx_grammar.specs.declared.table.TheConstants.{DEPTH}
use Rattle.witx_grammar.specs.Grammar.{Wants, grammar}
use Rattle.witx_grammar.specs.Search.{all_wants, not_ruled_out, ways}
use Rattle.witx_grammar.proofs.Opened.{all_done, all_left, loop_more}
use Rattle.witx_grammar.proofs.fault.all_after.Goals as goal

pub loop-want-preserved : goal.loop-want-preserved
loop-want-preserved g c =
    loop_more (λ (w : Wants g.row.T.Denot g.row.N.Denot). not_ruled_out g.T.PartialEq.eq c.args.read.next (ways g.T.PartialEq.eq g.N.PartialEq.eq (grammar c.args.table.now) DEPTH c.args.read.kind w)) (λ (v : Vec (Symbol g.row.T.Denot g.row.N.Denot)). v.items) c.args.wants.now c.loop-want.want-index c.want-item.result _ _ _
    c.loop-want-test.true c.want-item.is
    (c.in_ok-push_ways.ensures ∙ ap (λ (w : Wants g.row.T.Denot g.row.N.Denot). all_wants c.loop-want.out.items ++ not_ruled_out g.T.PartialEq.eq c.args.read.next (ways g.T.PartialEq.eq g.N.PartialEq.eq (grammar c.args.table.now) DEPTH c.args.read.kind w)) c.as_slice.ensures.value)
    c.loop-want.invariant

pub returns : goal.returns
returns g c =
    all_done (λ (w : Wants g.row.T.Denot g.row.N.Denot). not_ruled_out g.T.PartialEq.eq c.args.read.next (ways g.T.PartialEq.eq g.N.PartialEq.eq (grammar c.args.table.now) DEPTH c.args.read.kind w)) (λ (v : Vec (Symbol g.row.T.Denot g.row.N.Denot)). v.items) c.args.wants.now c.loop-want.want-index _ _
    c.loop-want-test.false c.loop-want.invariant
    ∙ sym (all_left g.T.PartialEq.eq g.N.PartialEq.eq (grammar c.args.table.now) c.args.read.next DEPTH c.args.read.kind (all_wants c.args.wants.now))
