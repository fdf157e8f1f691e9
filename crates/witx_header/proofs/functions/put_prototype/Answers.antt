use Rattle.witx_header.proofs.Appending.{four}
use Rattle.witx_header.proofs.functions.put_prototype.Goals as goal

pub returns : goal.returns
returns c = four _ _ _ _ _ _ _ _ _ c.in_ok-put_declared.ensures c.in_ok-put_params.ensures c.in_ok-put_noreturn.ensures c.in_ok-put_imported.ensures
