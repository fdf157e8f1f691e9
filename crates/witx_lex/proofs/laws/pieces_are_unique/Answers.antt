use Rattle.witx_lex.proofs.Unique.{pieces_unique}
use Rattle.witx_lex.proofs.laws.pieces_are_unique.Goals as goal

pub returns : goal.returns
returns c text ps qs a b = pieces_unique ps qs 0 text a b
