use Rattle.std.proofs.Common.{arith}
use Rattle.std.proofs.lemmas.Grind.{common_steps}
use Rattle.witx_compat.proofs.functions.FuncPolyfill.full_compat.Goals as goal

pub returns-else-all_compatible-2 : goal.returns-else-all_compatible-2
returns-else-all_compatible-2 c = grind (arith, common_steps)

pub returns-then-all_compatible-2 : goal.returns-then-all_compatible-2
returns-then-all_compatible-2 c = grind (arith, common_steps)
