use Rattle.std.proofs.Common.{map, subst}
use Rattle.witx_instructions.specs.Views.{called, event_of}
use Rattle.witx_run.specs.SideEnds.{HostRuns}
use Rattle.witx_run.specs.Views.{reply_of}
use Rattle.witx_run.proofs.RunLemmas.{handed-returned, handed-stuck}
use Rattle.witx_run.proofs.side.Side.hand_on.Goals as goal

pub returns-in-Stuck : goal.returns-in-Stuck
returns-in-Stuck g c =
    handed-stuck (g.D.Domain.domain c.args.self.host.now.domain.now) g.D.Domain.value_of g.D.Domain.word_of g.D.Domain.memory_of c.args.self.host.now.owner.now (map event_of c.args.callee.now) (reply_of g.D.Domain.value_of c.args.self.host.now.reply) c.args.self.script.now
    c.args.self.progress (map g.D.Domain.word_of c.args.words.items) c.in-Stuck.i
    (subst (λ e. HostRuns g.D.Domain c.args.self.host.now (called c.args.self.script.now.func.now) (map event_of c.args.callee.now) (map g.D.Domain.word_of c.args.words.items) (g.D.Domain.memory_of c.args.self.progress.machine.memory) e) c.in-Stuck.is
    (subst (λ ws. HostRuns g.D.Domain c.args.self.host.now (called c.args.self.script.now.func.now) (map event_of c.args.callee.now) (map g.D.Domain.word_of ws) (g.D.Domain.memory_of c.args.self.progress.machine.memory) c.in-Ok.end) c.as_slice-slice.ensures.value c.in-Ok.ensures))

pub returns-in-Returned : goal.returns-in-Returned
returns-in-Returned g c =
    handed-returned (g.D.Domain.domain c.args.self.host.now.domain.now) g.D.Domain.value_of g.D.Domain.word_of g.D.Domain.memory_of c.args.self.host.now.owner.now (map event_of c.args.callee.now) (reply_of g.D.Domain.value_of c.args.self.host.now.reply) c.args.self.script.now
    c.args.self.progress (map g.D.Domain.word_of c.args.words.items) c.in-Returned.returned c.take_up.result
    (subst (λ e. HostRuns g.D.Domain c.args.self.host.now (called c.args.self.script.now.func.now) (map event_of c.args.callee.now) (map g.D.Domain.word_of c.args.words.items) (g.D.Domain.memory_of c.args.self.progress.machine.memory) e) c.in-Returned.is
    (subst (λ ws. HostRuns g.D.Domain c.args.self.host.now (called c.args.self.script.now.func.now) (map event_of c.args.callee.now) (map g.D.Domain.word_of ws) (g.D.Domain.memory_of c.args.self.progress.machine.memory) c.in-Ok.end) c.as_slice-slice.ensures.value c.in-Ok.ensures))
    c.take_up.ensures
