use Rattle.std.proofs.Common.{arith}
use Rattle.std.proofs.lemmas.Grind.{common_steps}
use Rattle.witx_run.proofs.calls.put_back.Goals as goal

pub returns-clause-stack : goal.returns-clause-stack
returns-clause-stack g c = grind (arith, common_steps)

pub returns-clause-returned : goal.returns-clause-returned
returns-clause-returned g c = grind (arith, common_steps)

pub returns-clause-memory : goal.returns-clause-memory
returns-clause-memory g c = grind (arith, common_steps)
