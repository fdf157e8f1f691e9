use Rattle.std.proofs.Common.{length}
use Rattle.witx_instructions.specs.Views.{event_of}
use Rattle.witx_instructions.proofs.Results.{length-map}
use Rattle.witx_run.specs.Turns.{script_events}
use Rattle.witx_run.proofs.RunLemmas.{end-over}
use Rattle.witx_run.proofs.side.Side.over.Goals as goal

pub returns : goal.returns
returns g c = λ x noted known k over.
    end-over g.D.Domain.value_of g.D.Domain.word_of g.D.Domain.memory_of x (script_events c.args.self.script.now) noted c.args.self.progress.machine (length c.args.self.script.now.events.now) c.end_of_machine.result k
    (length-map event_of c.args.self.script.now.events.now) (c.end_of_machine.ensures x (script_events c.args.self.script.now) noted)
