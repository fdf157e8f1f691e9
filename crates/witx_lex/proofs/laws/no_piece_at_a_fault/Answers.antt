use Rattle.witx_lex.proofs.Faults.{no_piece}
use Rattle.witx_lex.proofs.laws.no_piece_at_a_fault.Goals as goal

pub returns : goal.returns
returns c n text kind k p rest f h = no_piece n text kind k p rest f h
