use Rattle.std.proofs.Common.{arith}
use Rattle.std.proofs.lemmas.Grind.{common_steps}
use Rattle.witx_run.proofs.copies.copy_item.Goals as goal

pub returns-in_ok-copy_name-in-Value : goal.returns-in_ok-copy_name-in-Value
returns-in_ok-copy_name-in-Value g c = grind (arith, common_steps)
