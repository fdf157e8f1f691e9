use Rattle.std.proofs.Common.{◌∙◌, sym}
use Rattle.witx_ast.specs.Plain.{plain}
use Rattle.witx_ast.specs.Views.{tree_of}
use Rattle.witx_bytes.proofs.Belonging.{const_value}
use Rattle.witx_bytes.proofs.Parts.{not_const}
use Rattle.witx_bytes.proofs.membership.is_const_pointer.Goals as goal

pub returns-in-ConstPointer : goal.returns-in-ConstPointer
returns-in-ConstPointer c = c.is_word.ensures ∙ sym (const_value (plain (tree_of c.args.target.now)) c.args.value.now c.in-ConstPointer.address c.in-ConstPointer.is)

pub returns-in_default : goal.returns-in_default
returns-in_default c = sym (not_const (plain (tree_of c.args.target.now)) c.args.value.now c.in_default.not-ConstPointer)
