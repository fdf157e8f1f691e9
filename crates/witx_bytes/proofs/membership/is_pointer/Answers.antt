use Rattle.std.proofs.Common.{◌∙◌, sym}
use Rattle.witx_ast.specs.Plain.{plain}
use Rattle.witx_ast.specs.Views.{tree_of}
use Rattle.witx_bytes.proofs.Belonging.{pointer_value}
use Rattle.witx_bytes.proofs.Parts.{not_pointer}
use Rattle.witx_bytes.proofs.membership.is_pointer.Goals as goal

pub returns-in-Pointer : goal.returns-in-Pointer
returns-in-Pointer c = c.is_word.ensures ∙ sym (pointer_value (plain (tree_of c.args.target.now)) c.args.value.now c.in-Pointer.address c.in-Pointer.is)

pub returns-in_default : goal.returns-in_default
returns-in_default c = sym (not_pointer (plain (tree_of c.args.target.now)) c.args.value.now c.in_default.not-Pointer)
