use Rattle.witx_ast.proofs.PartCopies.{function-copied}
use Rattle.witx_ast.proofs.copy_laws.copied_function_is_equal.Goals as goal

pub returns : goal.returns
returns c = function-copied c.args.original.now c.args.copy.now c.requires
