use Rattle.witx_run.proofs.RunLemmas.{machine-returned}
use Rattle.witx_run.proofs.side.end_of_machine.Goals as goal

pub returns-in-Some : goal.returns-in-Some
returns-in-Some g c = machine-returned g.D.Domain.value_of g.D.Domain.word_of g.D.Domain.memory_of c.args.machine c.args.events c.in-Some.back c.in-Some.is
