use Rattle.std.proofs.Common.{rules}
use Rattle.witx_compat.proofs.representable.IntReprRepresentable.representable.Goals as goal

pub returns-in-U16-U32-clause-exact : goal.returns-in-U16-U32-clause-exact
returns-in-U16-U32-clause-exact c = search rules
