use Rattle.std.proofs.Common.{ap, sym, ◌∙◌}
use Rattle.witx_run.specs.Views.{items_of}
use Rattle.witx_run.specs.Turns.{script_events, deeper, whole_behind}
use Rattle.witx_run.proofs.progress.perform_plain.Goals as goal

pub returns-clause-comes : goal.returns-clause-comes
returns-clause-comes g c = λ x known.
    ap (whole_behind (g.D.Domain.domain c.args.domain.now) g.D.Domain.value_of g.D.Domain.word_of g.D.Domain.memory_of x (script_events c.args.script.now) c.args.progress.now)
    (c.in_ok-went.ensures.performs x (script_events c.args.script.now) (deeper (script_events c.args.script.now) c.args.progress.now.frames.items) (known.arguments ∙ ap (items_of g.D.Domain.value_of g.D.Domain.word_of) (sym c.as_slice.ensures.value)) known.has_called)
    ∙ c.settle.ensures.comes (g.D.Domain.domain c.args.domain.now) x
