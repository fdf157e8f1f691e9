use Rattle.std.proofs.Common.{rules}
use Rattle.witx_base.proofs.path_text.above.Goals as goal

pub returns-then-is_empty : goal.returns-then-is_empty
returns-then-is_empty c = search rules
