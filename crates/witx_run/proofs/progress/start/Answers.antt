use Rattle.std.proofs.Common.{sym, length}
use Rattle.witx_instructions.specs.Views.{event_of}
use Rattle.witx_instructions.proofs.Results.{length-map}
use Rattle.witx_run.specs.Turns.{script_events}
use Rattle.witx_run.proofs.StartLemmas.{started, starts}
use Rattle.witx_run.proofs.progress.start.Goals as goal

pub returns-clause-comes : goal.returns-clause-comes
returns-clause-comes g c = λ d x called.
    starts d g.D.Domain.value_of g.D.Domain.word_of g.D.Domain.memory_of x (script_events c.args.script.now) c.new.result c.new-2.result (length c.args.script.now.events.now) (g.D.Domain.memory_of c.args.memory) (started g.D.Domain.value_of g.D.Domain.word_of g.D.Domain.memory_of x (script_events c.args.script.now) c.new.result c.args.memory c.new.ensures called) c.new-2.ensures.items
    (sym (length-map event_of c.args.script.now.events.now))
