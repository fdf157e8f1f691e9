use Rattle.std.proofs.Common.{arith}
use Rattle.witx_run.proofs.CallLemmas.{call_rules}
use Rattle.witx_run.proofs.calls.push_result.Goals as goal

pub returns-in_ok-push-in-len1 : goal.returns-in_ok-push-in-len1
returns-in_ok-push-in-len1 g c = grind (arith, call_rules)

pub returns-in_default : goal.returns-in_default
returns-in_default g c = grind (arith, call_rules)
