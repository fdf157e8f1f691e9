use Rattle.std.proofs.Common.{map}
use Rattle.witx_run.specs.SideEnds.{behind_event}
use Rattle.witx_run.specs.Views.{reply_of}
use Rattle.witx_run.proofs.RunLemmas.{callee-finished}
use Rattle.witx_run.proofs.side.Side.finish_callee.Goals as goal

pub returns : goal.returns
returns g c =
    callee-finished (g.D.Domain.domain c.args.self.host.now.domain.now) g.D.Domain.value_of g.D.Domain.word_of g.D.Domain.memory_of c.args.self.host.now.owner.now (reply_of g.D.Domain.value_of c.args.self.host.now.reply) c.args.self.script.now
    (map g.D.Domain.value_of c.args.noted.items) (behind_event g.D.Domain c.args.self) c.in_ok-end.end c.end_with_notes.result c.in_ok-end.ensures c.end_with_notes.ensures
