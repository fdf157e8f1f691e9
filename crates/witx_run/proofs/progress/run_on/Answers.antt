use Rattle.std.proofs.Common.{ap, ◌∙◌}
use Rattle.witx_run.specs.Turns.{script_events, turned}
use Rattle.witx_run.proofs.MachineLemmas.{moved}
use Rattle.witx_run.proofs.progress.run_on.Goals as goal

pub returns-in-Advances : goal.returns-in-Advances
returns-in-Advances g c =
    moved c.run.result _ _ (λ stop h x known.
    c.settle.ensures.comes (g.D.Domain.domain c.args.domain.now) x ∙ ap (turned (g.D.Domain.domain c.args.domain.now) g.D.Domain.value_of g.D.Domain.word_of g.D.Domain.memory_of x (script_events c.args.script.now) c.settle.new.progress) c.in-Advances.is ∙ h x known) c.run.ensures.halts
