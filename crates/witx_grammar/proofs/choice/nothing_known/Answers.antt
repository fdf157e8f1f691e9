use Rattle.witx_grammar.specs.Grammar.{grammar}
use Rattle.witx_grammar.proofs.Choosing.{nothing_more_known}
use Rattle.witx_grammar.proofs.choice.nothing_known.Goals as goal

pub loop-place-preserved : goal.loop-place-preserved
loop-place-preserved g c =
    nothing_more_known g.T.PartialEq.eq g.N.PartialEq.eq (grammar c.args.table.now) c.loop-place.known.items _ c.loop-place.invariant c.in_ok-push.ensures.items
