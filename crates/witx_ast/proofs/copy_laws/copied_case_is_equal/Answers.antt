use Rattle.witx_ast.proofs.PartCopies.{case-copied}
use Rattle.witx_ast.proofs.copy_laws.copied_case_is_equal.Goals as goal

pub returns : goal.returns
returns c = case-copied c.args.original.now c.args.copy.now c.requires
