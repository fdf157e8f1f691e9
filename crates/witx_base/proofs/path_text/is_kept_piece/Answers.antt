use Rattle.std.proofs.Common.{rules}
use Rattle.witx_base.proofs.path_text.is_kept_piece.Goals as goal

pub returns : goal.returns
returns c = search rules
