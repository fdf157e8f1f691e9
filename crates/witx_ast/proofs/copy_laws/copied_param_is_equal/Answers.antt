use Rattle.witx_ast.proofs.PartCopies.{param-copied}
use Rattle.witx_ast.proofs.copy_laws.copied_param_is_equal.Goals as goal

pub returns : goal.returns
returns c = param-copied c.args.original.now c.args.copy.now c.requires
