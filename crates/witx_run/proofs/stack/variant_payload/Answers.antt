use Rattle.std.proofs.Common.{arith}
use Rattle.witx_run.proofs.StackLemmas.{stack_rules}
use Rattle.witx_run.proofs.stack.variant_payload.Goals as goal

pub returns-in_ok-push-in-Some : goal.returns-in_ok-push-in-Some
returns-in_ok-push-in-Some g c = grind (arith, stack_rules)
