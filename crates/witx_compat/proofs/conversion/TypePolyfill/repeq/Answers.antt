use Rattle.std.proofs.Common.{rules}
use Rattle.witx_compat.proofs.conversion.TypePolyfill.repeq.Goals as goal

pub returns-in-OldToNew : goal.returns-in-OldToNew
returns-in-OldToNew c = search rules
