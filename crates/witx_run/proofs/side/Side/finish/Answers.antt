use Rattle.witx_run.specs.SideEnds.{behind_event}
use Rattle.witx_run.proofs.RunLemmas.{finishes}
use Rattle.witx_run.proofs.side.Side.finish.Goals as goal

pub returns : goal.returns
returns g c =
    finishes g.D.Domain.value_of g.D.Domain.word_of g.D.Domain.memory_of (g.D.Domain.domain c.args.self.host.now.domain.now) c.args.self.script.now (behind_event g.D.Domain c.args.self) c.run_on.new.progress c.in-Ok.stop c.end.result
    c.in-Ok.ensures c.end.ensures
