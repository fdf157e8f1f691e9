use Rattle.witx_ast.proofs.PartCopies.{member-copied}
use Rattle.witx_ast.proofs.copy_laws.copied_member_is_equal.Goals as goal

pub returns : goal.returns
returns c = member-copied c.args.original.now c.args.copy.now c.requires
