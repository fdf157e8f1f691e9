use Rattle.std.proofs.Common.{◌∙◌}
use Rattle.witx_ast.specs.SameLaws.{same-from}
use Rattle.witx_ast.proofs.PartCopies.{record-same}
use Rattle.witx_ast.proofs.copy_laws.copied_record_is_equal.Goals as goal

pub returns : goal.returns
returns c = record-same c.args.copy.now c.args.original.now ∙ same-from _ _ c.requires
