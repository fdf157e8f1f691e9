use Rattle.std.proofs.Common.{rules}
use Rattle.witx_base.proofs.calls.CallCounter.count.Goals as goal

pub returns-then-fails-clause-counted : goal.returns-then-fails-clause-counted
returns-then-fails-clause-counted c = search rules

pub returns-else-fails-clause-counted : goal.returns-else-fails-clause-counted
returns-else-fails-clause-counted c = search rules
