use Rattle.witx_invoke.proofs.Lines.{text-tells}
use Rattle.witx_invoke.proofs.laws.texts_tell_values.Goals as goal

pub returns : goal.returns
returns c = text-tells
