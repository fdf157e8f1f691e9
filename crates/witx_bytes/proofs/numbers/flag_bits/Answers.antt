use Rattle.std.proofs.Common.{rules, arith}
use Rattle.std.proofs.lemmas.Grind.{common_steps}
use Rattle.witx_bytes.proofs.FlagBits.{flag_rules}
use Rattle.witx_bytes.proofs.numbers.flag_bits.Goals as goal

pub loop-i-init : goal.loop-i-init
loop-i-init c = grind (arith, common_steps)

pub overflow_mul-bits : goal.overflow_mul-bits
overflow_mul-bits c = search (rules, flag_rules)

pub overflow_add-bits : goal.overflow_add-bits
overflow_add-bits c = search (rules, flag_rules)

pub loop-i-preserved : goal.loop-i-preserved
loop-i-preserved c = grind (arith, common_steps)
