use Rattle.std.proofs.Common.{refl, ◌+◌}
use Rattle.witx_run.specs.Turns.{script_events}
use Rattle.witx_run.proofs.TurnLemmas.{settled-not, settled, settled-early}
use Rattle.witx_run.proofs.progress.settle.Goals as goal

pub returns-then-not-went-clause-comes : goal.returns-then-not-went-clause-comes
returns-then-not-went-clause-comes g c = λ d x. settled-not d g.D.Domain.value_of g.D.Domain.word_of g.D.Domain.memory_of x (script_events c.args.script.now) c.args.progress.now c.args.went c.if-not-went.true

pub returns-then-not-goes_to-clause-comes : goal.returns-then-not-goes_to-clause-comes
returns-then-not-goes_to-clause-comes g c = λ d x. settled-early d g.D.Domain.value_of g.D.Domain.word_of g.D.Domain.memory_of x (script_events c.args.script.now) c.args.progress.now c.args.went (c.args.progress.now.at + 1) c.goes_to.result c.if-not-went.false refl c.goes_to.ensures c.if-not-goes_to.true

pub returns-clause-comes : goal.returns-clause-comes
returns-clause-comes g c = λ d x. settled d g.D.Domain.value_of g.D.Domain.word_of g.D.Domain.memory_of x (script_events c.args.script.now) c.args.progress.now c.args.went (c.args.progress.now.at + 1) c.goes_to.result c.if-not-went.false refl c.goes_to.ensures c.if-not-goes_to.false
