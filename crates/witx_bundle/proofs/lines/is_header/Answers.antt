use Rattle.std.proofs.Common.{rules}
use Rattle.witx_bundle.proofs.lines.is_header.Goals as goal

pub returns : goal.returns
returns c = search rules
