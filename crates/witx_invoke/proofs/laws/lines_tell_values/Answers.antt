use Rattle.witx_invoke.proofs.Lines.{line-tells}
use Rattle.witx_invoke.proofs.laws.lines_tell_values.Goals as goal

pub returns : goal.returns
returns c = line-tells
