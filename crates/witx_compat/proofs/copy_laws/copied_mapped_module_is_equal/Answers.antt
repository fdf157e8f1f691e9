use Rattle.witx_compat.proofs.PolyfillCopies.{module-copied}
use Rattle.witx_compat.proofs.copy_laws.copied_mapped_module_is_equal.Goals as goal

pub returns : goal.returns
returns c = module-copied c.args.original.now c.args.copy.now c.requires
