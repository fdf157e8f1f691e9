use Rattle.witx_run.specs.OutcomeViews.{call_of}
use Rattle.witx_run.specs.SideEnds.{behind_event}
use Rattle.witx_run.specs.Views.{reply_of}
use Rattle.witx_run.proofs.RunLemmas.{caller-finished}
use Rattle.witx_run.proofs.side.Side.finish_caller.Goals as goal

pub returns : goal.returns
returns g c = λ callee.
    caller-finished (g.D.Domain.domain c.args.self.host.now.domain.now) g.D.Domain.value_of g.D.Domain.word_of g.D.Domain.memory_of c.args.self.host.now.owner.now callee (reply_of g.D.Domain.value_of c.args.self.host.now.reply) c.args.self.script.now
    (call_of g.D.Domain.value_of g.D.Domain.word_of g.D.Domain.memory_of c.args.call) (behind_event g.D.Domain c.args.self) c.in_ok-end.end c.run_with_call.result c.in_ok-end.ensures c.run_with_call.ensures
