use Rattle.witx_compat.proofs.PolyfillCopies.{mapped-copied}
use Rattle.witx_compat.proofs.copy_laws.copied_mapped_param_is_equal.Goals as goal

pub returns : goal.returns
returns c = mapped-copied c.args.original.now c.args.copy.now c.requires
