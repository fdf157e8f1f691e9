use Rattle.std.proofs.Common.{map, subst}
use Rattle.witx_ast.specs.Views.{tree_of}
use Rattle.witx_instructions.specs.Views.{called}
use Rattle.witx_run.specs.SideEnds.{HostReplies}
use Rattle.witx_run.specs.Views.{reply_of}
use Rattle.witx_run.proofs.RunLemmas.{interface-none, interface-some}
use Rattle.witx_run.proofs.side.Side.call_interface.Goals as goal

pub returns-in-Some : goal.returns-in-Some
returns-in-Some g c =
    interface-some (g.D.Domain.domain c.args.self.host.now.domain.now) g.D.Domain.value_of g.D.Domain.word_of g.D.Domain.memory_of c.args.self.host.now.owner.now (reply_of g.D.Domain.value_of c.args.self.host.now.reply) c.args.self.script.now
    c.args.self.progress c.reply_to.new.machine c.args.call.owner.now c.args.call.name.now (map tree_of c.args.call.params.now) (map tree_of c.args.call.results.now) c.in-Some.noted c.finish_callee.result
    (subst (HostReplies g.D.Domain c.args.self.host.now (called c.args.self.script.now.func.now) c.args.call c.args.self.progress.machine c.reply_to.new.machine) c.in-Some.is c.in-Ok.ensures.noted)
    c.finish_callee.ensures

pub returns-in-None : goal.returns-in-None
returns-in-None g c =
    interface-none (g.D.Domain.domain c.args.self.host.now.domain.now) g.D.Domain.value_of g.D.Domain.word_of g.D.Domain.memory_of c.args.self.host.now.owner.now (reply_of g.D.Domain.value_of c.args.self.host.now.reply) c.args.self.script.now
    c.args.self.progress c.reply_to.new.machine c.args.call.owner.now c.args.call.name.now (map tree_of c.args.call.params.now) (map tree_of c.args.call.results.now) c.stuck.result c.stuck.ensures
    (subst (HostReplies g.D.Domain c.args.self.host.now (called c.args.self.script.now.func.now) c.args.call c.args.self.progress.machine c.reply_to.new.machine) c.in-None.is c.in-Ok.ensures.noted)
