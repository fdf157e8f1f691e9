use Rattle.witx_compat.proofs.PolyfillCopies.{unknown-copied}
use Rattle.witx_compat.proofs.copy_laws.copied_unknown_param_is_equal.Goals as goal

pub returns : goal.returns
returns c = unknown-copied c.args.original.now c.args.copy.now c.requires
