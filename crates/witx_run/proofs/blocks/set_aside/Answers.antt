use Rattle.std.proofs.Common.{refl, ◌+◌}
use Rattle.witx_machine.specs.Events.{push}
use Rattle.witx_run.specs.Turns.{script_events}
use Rattle.witx_run.proofs.NearLemmas.{block-aside}
use Rattle.witx_run.proofs.TurnLemmas.{at-block, at-open, at-less, got-at}
use Rattle.witx_run.proofs.blocks.set_aside.Goals as goal

pub block_at-requires-clause-below : goal.block_at-requires-clause-below
block_at-requires-clause-below g c = at-less (script_events c.args.script.now) c.args.progress.now.at c.args.progress.now.end push c.requires

pub block_at-requires-clause-push : goal.block_at-requires-clause-push
block_at-requires-clause-push g c = got-at (script_events c.args.script.now) c.args.progress.now.at c.args.progress.now.end push c.requires

pub returns-in_ok-push-in-Some-clause-comes : goal.returns-in_ok-push-in-Some-clause-comes
returns-in_ok-push-in-Some-clause-comes g c = λ d x.
    at-block d g.D.Domain.value_of g.D.Domain.word_of g.D.Domain.memory_of x (script_events c.args.script.now) c.args.progress.now c.in-Some.block c.push.new.self (c.in-Some.block.end + 1) c.requires c.in-Some.ensures c.in_ok-push-in-Some.ensures.items refl

pub returns-in_ok-push-in-Some-clause-falls : goal.returns-in_ok-push-in-Some-clause-falls
returns-in_ok-push-in-Some-clause-falls g c = block-aside c.args.progress.now c.in-Some.block c.push.new.self c.in_ok-push-in-Some.ensures.items c.in-Some.ensures.0 c.in-Some.ensures.1 c.in-Some.ensures.2

pub returns-in-None-clause-comes : goal.returns-in-None-clause-comes
returns-in-None-clause-comes g c = λ d x. at-open d g.D.Domain.value_of g.D.Domain.word_of g.D.Domain.memory_of x (script_events c.args.script.now) c.args.progress.now c.requires c.in-None.ensures
