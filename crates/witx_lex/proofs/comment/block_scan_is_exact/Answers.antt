use Rattle.witx_lex.proofs.Blocks.{scanned, text_scanned}
use Rattle.witx_lex.proofs.comment.block_scan_is_exact.Goals as goal

pub returns-clause-found : goal.returns-clause-found
returns-clause-found c text k e = let h = scanned text k e in (h.text, h.split)

pub returns-clause-complete : goal.returns-clause-complete
returns-clause-complete c inside rest h = text_scanned inside rest h
