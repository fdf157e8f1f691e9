use Rattle.std.proofs.Common.{arith}
use Rattle.std.proofs.lemmas.Grind.{common_steps}
use Rattle.witx_run.proofs.calls.typed_words_off.Goals as goal

pub returns : goal.returns
returns g c = grind (arith, common_steps)
