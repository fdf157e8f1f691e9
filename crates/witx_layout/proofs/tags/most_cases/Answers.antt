use Rattle.std.proofs.Common.{rules}
use Rattle.witx_layout.proofs.tags.most_cases.Goals as goal

pub returns-in-U8 : goal.returns-in-U8
returns-in-U8 c = search rules
