use Rattle.witx_machine.proofs.promises.traces_are_faithful.Goals as goal
use Rattle.witx_machine.proofs.CellLaws.{traces_are_faithful}

pub returns : goal.returns
returns c = traces_are_faithful
