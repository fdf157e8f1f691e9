use Rattle.std.proofs.Common.{sym}
use Rattle.witx_ast.specs.Plain.{plain}
use Rattle.witx_ast.specs.Views.{tree_of}
use Rattle.witx_bytes.proofs.Parts.{not_list}
use Rattle.witx_bytes.proofs.membership.is_list.Goals as goal

pub returns-in_default : goal.returns-in_default
returns-in_default c = sym (not_list (plain (tree_of c.args.target.now)) c.args.value.now c.in_default.not-List)
