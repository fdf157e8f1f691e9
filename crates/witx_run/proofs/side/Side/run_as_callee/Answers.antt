use Rattle.witx_run.specs.SideEnds.{ahead}
use Rattle.witx_run.specs.Views.{reply_of}
use Rattle.witx_run.proofs.RunLemmas.{callee-halts}
use Rattle.witx_run.proofs.side.Side.run_as_callee.Goals as goal

pub returns : goal.returns
returns g c =
    callee-halts (g.D.Domain.domain c.args.self.host.now.domain.now) g.D.Domain.value_of g.D.Domain.word_of g.D.Domain.memory_of c.args.self.host.now.owner.now (reply_of g.D.Domain.value_of c.args.self.host.now.reply) c.args.self.script.now
    (ahead g.D.Domain c.args.self) c.run.new.progress c.in-Ok.stop c.callee_halted.result c.in-Ok.ensures.halts c.callee_halted.ensures
