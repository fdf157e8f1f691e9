use Rattle.witx_compat.proofs.PolyfillCopies.{modules-copied}
use Rattle.witx_compat.proofs.copy_laws.copied_polyfill_is_equal.Goals as goal

pub returns : goal.returns
returns c = modules-copied c.args.original.now.modules c.args.copy.now.modules c.requires
