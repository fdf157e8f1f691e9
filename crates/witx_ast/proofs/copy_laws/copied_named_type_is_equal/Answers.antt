use Rattle.std.proofs.Common.{◌∙◌}
use Rattle.witx_ast.specs.SameLaws.{same-from}
use Rattle.witx_ast.proofs.Equal.{named-same}
use Rattle.witx_ast.proofs.copy_laws.copied_named_type_is_equal.Goals as goal

pub returns : goal.returns
returns c = named-same c.args.copy.now c.args.original.now ∙ same-from _ _ c.requires
