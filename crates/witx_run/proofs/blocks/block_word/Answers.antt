use Rattle.std.proofs.Common.{arith}
use Rattle.std.proofs.lemmas.Grind.{common_steps}
use Rattle.witx_run.proofs.blocks.block_word.Goals as goal

pub returns-in-Some-Word : goal.returns-in-Some-Word
returns-in-Some-Word g c = grind (arith, common_steps)

pub returns-then-has_type : goal.returns-then-has_type
returns-then-has_type g c = grind (arith, common_steps)
