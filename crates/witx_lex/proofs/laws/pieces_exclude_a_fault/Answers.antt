use Rattle.witx_lex.proofs.Faults.{no_pieces}
use Rattle.witx_lex.proofs.laws.pieces_exclude_a_fault.Goals as goal

pub returns : goal.returns
returns c text ps kind at h f = no_pieces ps f.0 0 text f.1 kind f.2 h f.3 f.4
