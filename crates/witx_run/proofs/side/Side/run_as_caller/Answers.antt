use Rattle.std.proofs.Common.{map}
use Rattle.witx_instructions.specs.Views.{event_of}
use Rattle.witx_run.specs.SideEnds.{ahead}
use Rattle.witx_run.specs.Views.{reply_of}
use Rattle.witx_run.proofs.RunLemmas.{caller-halts}
use Rattle.witx_run.proofs.side.Side.run_as_caller.Goals as goal

pub returns : goal.returns
returns g c =
    caller-halts (g.D.Domain.domain c.args.self.host.now.domain.now) g.D.Domain.value_of g.D.Domain.word_of g.D.Domain.memory_of c.args.self.host.now.owner.now (map event_of c.args.callee.now) (reply_of g.D.Domain.value_of c.args.self.host.now.reply) c.args.self.script.now
    (ahead g.D.Domain c.args.self) c.run.new.progress c.in-Ok.stop c.caller_halted.result c.in-Ok.ensures.halts c.caller_halted.ensures
