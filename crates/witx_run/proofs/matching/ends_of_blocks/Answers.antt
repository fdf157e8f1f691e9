use Rattle.std.proofs.Common.{ap, ◌∙◌}
use Rattle.std.specs.Prelude.{reverse}
use Rattle.witx_instructions.specs.Views.{event_of}
use Rattle.witx_run.specs.BlockEnds.{first}
use Rattle.witx_run.proofs.EndLemmas.{last_first, next_sofar}
use Rattle.witx_run.proofs.matching.ends_of_blocks.Goals as goal

pub loop-i-preserved : goal.loop-i-preserved
loop-i-preserved c =
    let last = last_first c.deref.result.now c.last.result c.last.ensures.item.0 c.last.ensures.item.1 in
    next_sofar event_of c.args.events.now c.loop-i.i c.index-events-i.result c.loop-i.ends.items c.loop-i.left.items c.match_end.new.left.items c.copied.result c.loop-i.invariant c.loop-i-test.true c.loop-i.auto.i c.index-events-i.is
    (c.copied.ensures ∙ last ∙ ap (λ xs. first (reverse xs)) c.deref.ensures.value) c.in_ok-match_end.ensures
