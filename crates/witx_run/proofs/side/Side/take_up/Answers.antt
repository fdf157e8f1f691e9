use Rattle.std.proofs.Common.{map, subst}
use Rattle.witx_instructions.specs.Views.{called}
use Rattle.witx_run.specs.SideEnds.{HostTakesBack}
use Rattle.witx_run.specs.Views.{reply_of}
use Rattle.witx_run.proofs.RunLemmas.{taken-none, taken-some}
use Rattle.witx_run.proofs.side.Side.take_up.Goals as goal

pub returns-in-Some : goal.returns-in-Some
returns-in-Some g c =
    taken-some (g.D.Domain.domain c.args.self.host.now.domain.now) g.D.Domain.value_of g.D.Domain.word_of g.D.Domain.memory_of c.args.self.script.now c.args.self.progress (map g.D.Domain.word_of c.args.words.items) c.args.returned c.take_back.new.machine c.args.self.host.now.owner.now (reply_of g.D.Domain.value_of c.args.self.host.now.reply) c.in-Some.call c.finish_caller.result
    (subst (HostTakesBack g.D.Domain c.args.self.host.now (called c.args.self.script.now.func.now) (map g.D.Domain.word_of c.args.words.items) c.args.returned c.args.self.progress.machine c.take_back.new.machine) c.in-Some.is c.in-Ok.ensures.made)
    c.finish_caller.ensures

pub returns-in-None : goal.returns-in-None
returns-in-None g c =
    taken-none (g.D.Domain.domain c.args.self.host.now.domain.now) g.D.Domain.value_of g.D.Domain.word_of g.D.Domain.memory_of c.args.self.script.now c.args.self.progress (map g.D.Domain.word_of c.args.words.items) c.args.returned c.take_back.new.machine c.args.self.host.now.owner.now (reply_of g.D.Domain.value_of c.args.self.host.now.reply) c.stuck.result c.stuck.ensures
    (subst (HostTakesBack g.D.Domain c.args.self.host.now (called c.args.self.script.now.func.now) (map g.D.Domain.word_of c.args.words.items) c.args.returned c.args.self.progress.machine c.take_back.new.machine) c.in-None.is c.in-Ok.ensures.made)
