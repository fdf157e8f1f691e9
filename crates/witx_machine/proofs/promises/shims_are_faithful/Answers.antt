use Rattle.witx_machine.proofs.promises.shims_are_faithful.Goals as goal
use Rattle.witx_machine.proofs.CellLaws.{shims_are_faithful}

pub returns : goal.returns
returns c = shims_are_faithful
