use Rattle.std.proofs.Common.{arith}
use Rattle.std.proofs.lemmas.Grind.{common_steps}
use Rattle.witx_run.proofs.progress.run.Goals as goal

pub returns-in-Stops-clause-halts : goal.returns-in-Stops-clause-halts
returns-in-Stops-clause-halts g c = grind (arith, common_steps)
