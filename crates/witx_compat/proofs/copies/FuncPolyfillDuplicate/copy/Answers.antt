use Rattle.std.proofs.Common.{rules}
use Rattle.witx_compat.proofs.Copied.{copy_rules}
use Rattle.witx_compat.proofs.copies.FuncPolyfillDuplicate.copy.Goals as goal

pub returns : goal.returns
returns c = search (rules, copy_rules)
