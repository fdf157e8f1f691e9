use Rattle.std.proofs.Common.{ap, map, subst, ◌∙◌}
use Rattle.std.specs.Prelude.{IfOk}
use Rattle.witx_instructions.specs.Views.{called, event_of}
use Rattle.witx_run.specs.SideEnds.{HostRuns}
use Rattle.witx_run.specs.Views.{items_of, reply_of}
use Rattle.witx_run.proofs.RunLemmas.{callee-ran}
use Rattle.witx_run.proofs.side.Host.run_callee.Goals as goal

pub returns : goal.returns
returns g c =
    subst (λ stands. IfOk c.run_as_callee.result (HostRuns g.D.Domain c.args.self.now (called c.args.func.now) (map event_of c.args.events.now) (map g.D.Domain.word_of c.args.words.now) stands)) c.in_ok-copy.ensures
    (callee-ran (g.D.Domain.domain c.args.self.now.domain.now) g.D.Domain.value_of g.D.Domain.word_of g.D.Domain.memory_of c.args.self.now.owner.now (reply_of g.D.Domain.value_of c.args.self.now.reply) c.in_ok-script.script (map event_of c.args.events.now) (called c.args.func.now)
    (map g.D.Domain.word_of c.args.words.now) (g.D.Domain.memory_of c.in_ok-copy.copy) c.start.result c.run_as_callee.result
    (ap (λ e. map event_of e.now) c.in_ok-script.ensures.events) (ap (λ f. called f.now) c.in_ok-script.ensures.func)
    (ap (λ xs. items_of g.D.Domain.value_of g.D.Domain.word_of xs.items) c.in_ok-script.ensures.arguments ∙ c.in_ok-arguments.ensures) c.start.ensures.comes c.run_as_callee.ensures)
