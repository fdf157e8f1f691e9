use Rattle.std.proofs.Common.{arith}
use Rattle.witx_run.proofs.CallLemmas.{call_rules}
use Rattle.witx_run.proofs.calls.push_reply_for.Goals as goal

pub returns-then-branch : goal.returns-then-branch
returns-then-branch g c = grind (arith, call_rules)

pub returns-else-branch : goal.returns-else-branch
returns-else-branch g c = grind (arith, call_rules)
