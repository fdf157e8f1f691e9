use Rattle.witx_commands.proofs.ConstantTypes.{constants-have-typenames}
use Rattle.witx_commands.proofs.laws.constants_have_typenames.Goals as goal

pub returns : goal.returns
returns c = constants-have-typenames
