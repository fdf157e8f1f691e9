use Rattle.std.proofs.Common.{arith}
use Rattle.witx_run.proofs.CallLemmas.{call_rules}
use Rattle.witx_run.proofs.calls.push_reply.Goals as goal

pub returns-in-None : goal.returns-in-None
returns-in-None g c = grind (arith, call_rules)
