use Rattle.std.proofs.Common.{◌-◌, ◌∙◌}
use Rattle.witx_run.specs.Turns.{script_events}
use Rattle.witx_run.proofs.BlockLemmas.{block-over}
use Rattle.witx_run.proofs.MachineLemmas.{moved}
use Rattle.witx_run.proofs.NearLemmas.{falls-by, frame-taken}
use Rattle.witx_run.proofs.blocks.leave.Goals as goal

pub returns-in-Some-clause-comes : goal.returns-in-Some-clause-comes
returns-in-Some-clause-comes g c =
    moved c.leave_block.result _ _ (λ turn h x. block-over (g.D.Domain.domain c.args.domain.now) g.D.Domain.value_of g.D.Domain.word_of g.D.Domain.memory_of x (script_events c.args.script.now) c.args.progress.now c.in-Some.frame c.pop.new.self c.in-Some.ensures.items ∙ h x) c.leave_block.ensures.comes

pub returns-in-Some-clause-falls : goal.returns-in-Some-clause-falls
returns-in-Some-clause-falls g c =
    moved c.leave_block.result _ _ (λ turn h. falls-by (c.in-Some.frame.end - c.in-Some.frame.at) c.args.progress.now (record c.args.progress.now { frames = c.pop.new.self }) c.leave_block.new.progress turn (frame-taken c.args.progress.now c.pop.new.self c.in-Some.frame c.in-Some.ensures.items) h) c.leave_block.ensures.falls
