use Rattle.std.proofs.Common.{map, subst}
use Rattle.witx_instructions.specs.Views.{called, event_of}
use Rattle.witx_run.specs.SideEnds.{HostHandsOn}
use Rattle.witx_run.specs.Views.{reply_of}
use Rattle.witx_run.proofs.RunLemmas.{wasm-none, wasm-some}
use Rattle.witx_run.proofs.side.Side.call_wasm.Goals as goal

pub returns-in-Some : goal.returns-in-Some
returns-in-Some g c =
    wasm-some (g.D.Domain.domain c.args.self.host.now.domain.now) g.D.Domain.value_of g.D.Domain.word_of g.D.Domain.memory_of c.args.self.host.now.owner.now (map event_of c.args.callee.now) (reply_of g.D.Domain.value_of c.args.self.host.now.reply) c.args.self.script.now
    c.args.self.progress c.take_words.new.machine c.args.call.owner.now c.args.call.name.now c.args.call.params.now c.args.call.results.now c.in-Some.words c.hand_on.result
    (subst (HostHandsOn g.D.Domain c.args.self.host.now (called c.args.self.script.now.func.now) c.args.call c.args.self.progress.machine c.take_words.new.machine) c.in-Some.is c.in-Ok.ensures.words)
    c.hand_on.ensures

pub returns-in-None : goal.returns-in-None
returns-in-None g c =
    wasm-none (g.D.Domain.domain c.args.self.host.now.domain.now) g.D.Domain.value_of g.D.Domain.word_of g.D.Domain.memory_of c.args.self.host.now.owner.now (map event_of c.args.callee.now) (reply_of g.D.Domain.value_of c.args.self.host.now.reply) c.args.self.script.now
    c.args.self.progress c.take_words.new.machine c.args.call.owner.now c.args.call.name.now c.args.call.params.now c.args.call.results.now c.stuck.result c.stuck.ensures
    (subst (HostHandsOn g.D.Domain c.args.self.host.now (called c.args.self.script.now.func.now) c.args.call c.args.self.progress.machine c.take_words.new.machine) c.in-None.is c.in-Ok.ensures.words)
