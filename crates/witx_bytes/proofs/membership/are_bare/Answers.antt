use Rattle.std.proofs.Common.{rules, arith}
use Rattle.std.proofs.lemmas.Grind.{common_steps}
use Rattle.witx_bytes.proofs.Belonging.{loop_rules}
use Rattle.witx_bytes.proofs.membership.are_bare.Goals as goal

pub returns-then-is_some : goal.returns-then-is_some
returns-then-is_some c = search (rules, loop_rules)

pub loop-case-preserved : goal.loop-case-preserved
loop-case-preserved c = search (rules, loop_rules)

pub returns : goal.returns
returns c = grind (arith, common_steps)
