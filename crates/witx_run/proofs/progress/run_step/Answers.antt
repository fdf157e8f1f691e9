use Rattle.std.proofs.Common.{ap, ◌∙◌}
use Rattle.witx_run.specs.RowViews.{row_view}
use Rattle.witx_run.specs.Turns.{script_events, whole_at}
use Rattle.witx_run.proofs.MachineLemmas.{moved}
use Rattle.witx_run.proofs.progress.run_step.Goals as goal

pub returns-in-ResultLower-clause-comes : goal.returns-in-ResultLower-clause-comes
returns-in-ResultLower-clause-comes g c =
    moved c.lower_result.result _ _ (λ turn h x known.
    ap (λ r. whole_at (g.D.Domain.domain c.args.domain.now) g.D.Domain.value_of g.D.Domain.word_of g.D.Domain.memory_of x (script_events c.args.script.now) c.args.progress.now (row_view r)) c.in-ResultLower.is ∙ h c.args.has_called x known) c.lower_result.ensures.comes
