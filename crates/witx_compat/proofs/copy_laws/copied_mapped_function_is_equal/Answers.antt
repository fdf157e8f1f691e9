use Rattle.witx_compat.proofs.PolyfillCopies.{functions-copied}
use Rattle.witx_compat.proofs.copy_laws.copied_mapped_function_is_equal.Goals as goal

pub returns : goal.returns
returns c = functions-copied c.args.original.now c.args.copy.now c.requires
