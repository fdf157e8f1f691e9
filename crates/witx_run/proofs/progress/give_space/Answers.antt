use Rattle.std.proofs.Common.{ap, ◌∙◌}
use Rattle.witx_run.specs.MachineViews.{inside_of}
use Rattle.witx_run.specs.Turns.{script_events, deeper, whole_behind}
use Rattle.witx_run.proofs.progress.give_space.Goals as goal

pub returns-clause-comes : goal.returns-clause-comes
returns-clause-comes g c = λ x.
    ap (whole_behind (g.D.Domain.domain c.args.domain.now) g.D.Domain.value_of g.D.Domain.word_of g.D.Domain.memory_of x (script_events c.args.script.now) c.args.progress.now)
    (c.in_ok-went.ensures.gives x (script_events c.args.script.now) (deeper (script_events c.args.script.now) c.args.progress.now.frames.items) (inside_of g.D.Domain.value_of g.D.Domain.word_of c.args.progress.now.inside))
    ∙ c.settle.ensures.comes (g.D.Domain.domain c.args.domain.now) x
