use Rattle.std.proofs.Common.{length, subst, sym}
use Rattle.witx_run.specs.SideEnds.{EndsSo, halted}
use Rattle.witx_run.specs.Turns.{script_events}
use Rattle.witx_run.proofs.RunLemmas.{end-stops}
use Rattle.witx_run.proofs.side.Side.end.Goals as goal

pub returns-in-Over : goal.returns-in-Over
returns-in-Over g c = subst (λ s. EndsSo g.D.Domain c.args.self (halted g.D.Domain c.args.self s) c.over.result) (sym c.in-Over.is) c.over.ensures

pub returns-in_default : goal.returns-in_default
returns-in_default g c = λ x noted known k over.
    end-stops (g.D.Domain.domain c.args.self.host.now.domain.now) g.D.Domain.value_of g.D.Domain.word_of g.D.Domain.memory_of x (script_events c.args.self.script.now) noted c.args.self.progress (length c.args.self.script.now.events.now) c.args.stop c.stuck.result
    (λ e. c.in_default.not-Over e) c.stuck.ensures over
