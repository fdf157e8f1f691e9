use Rattle.witx_compat.proofs.PolyfillCopies.{conversion-copied}
use Rattle.witx_compat.proofs.copy_laws.copied_conversion_is_equal.Goals as goal

pub returns : goal.returns
returns c = conversion-copied c.args.original.now c.args.copy.now c.requires
