use Rattle.witx_ast.specs.SameLaws.{same-from}
use Rattle.witx_ast.proofs.copy_laws.copied_type_is_equal.Goals as goal

pub returns : goal.returns
returns c = same-from _ _ c.requires
