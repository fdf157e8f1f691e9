use Rattle.std.proofs.Common.{arith}
use Rattle.std.proofs.lemmas.Grind.{common_steps}
use Rattle.witx_run.proofs.calls.one_word.Goals as goal

pub returns-in_ok-copy_word-in-len1 : goal.returns-in_ok-copy_word-in-len1
returns-in_ok-copy_word-in-len1 g c = grind (arith, common_steps)

pub returns-in_default : goal.returns-in_default
returns-in_default g c = grind (arith, common_steps)
