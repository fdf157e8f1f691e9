use Rattle.std.proofs.Common.{map, subst}
use Rattle.witx_instructions.specs.Views.{event_of}
use Rattle.witx_run.specs.Turns.{IsHere}
use Rattle.witx_run.specs.Views.{reply_of}
use Rattle.witx_run.proofs.RunLemmas.{caller-calls, caller-stops, wasm-found}
use Rattle.witx_run.proofs.side.Side.caller_halted.Goals as goal

pub call_wasm-requires-clause-here : goal.call_wasm-requires-clause-here
call_wasm-requires-clause-here g c = subst (λ s. IsHere c.args.self.progress s) (wasm-found c.args.stop c.in-Some.call c.in-Some.ensures) c.requires.here

pub returns-in-Some : goal.returns-in-Some
returns-in-Some g c =
    caller-calls (g.D.Domain.domain c.args.self.host.now.domain.now) g.D.Domain.value_of g.D.Domain.word_of g.D.Domain.memory_of c.args.self.host.now.owner.now (map event_of c.args.callee.now) (reply_of g.D.Domain.value_of c.args.self.host.now.reply) c.args.self.script.now
    c.args.self.progress c.args.stop c.in-Some.call c.call_wasm.result c.in-Some.ensures c.call_wasm.ensures

pub returns-in-None : goal.returns-in-None
returns-in-None g c =
    caller-stops (g.D.Domain.domain c.args.self.host.now.domain.now) g.D.Domain.value_of g.D.Domain.word_of g.D.Domain.memory_of c.args.self.host.now.owner.now (map event_of c.args.callee.now) (reply_of g.D.Domain.value_of c.args.self.host.now.reply) c.args.self.script.now
    c.args.self.progress c.args.stop c.stuck.result c.in-None.ensures c.stuck.ensures
