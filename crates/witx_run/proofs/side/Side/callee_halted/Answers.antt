use Rattle.std.proofs.Common.{subst}
use Rattle.witx_run.specs.Turns.{IsHere}
use Rattle.witx_run.specs.Views.{reply_of}
use Rattle.witx_run.proofs.RunLemmas.{callee-calls, callee-stops, interface-found}
use Rattle.witx_run.proofs.side.Side.callee_halted.Goals as goal

pub call_interface-requires-clause-here : goal.call_interface-requires-clause-here
call_interface-requires-clause-here g c = subst (λ s. IsHere c.args.self.progress s) (interface-found c.args.stop c.in-Some.call c.in-Some.ensures) c.requires.here

pub returns-in-Some : goal.returns-in-Some
returns-in-Some g c =
    callee-calls (g.D.Domain.domain c.args.self.host.now.domain.now) g.D.Domain.value_of g.D.Domain.word_of g.D.Domain.memory_of c.args.self.host.now.owner.now (reply_of g.D.Domain.value_of c.args.self.host.now.reply) c.args.self.script.now
    c.args.self.progress c.args.stop c.in-Some.call c.call_interface.result c.in-Some.ensures c.call_interface.ensures

pub returns-in-None : goal.returns-in-None
returns-in-None g c =
    callee-stops (g.D.Domain.domain c.args.self.host.now.domain.now) g.D.Domain.value_of g.D.Domain.word_of g.D.Domain.memory_of c.args.self.host.now.owner.now (reply_of g.D.Domain.value_of c.args.self.host.now.reply) c.args.self.script.now
    c.args.self.progress c.args.stop c.stuck.result c.in-None.ensures c.stuck.ensures
