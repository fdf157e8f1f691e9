use Rattle.witx_ast.specs.Plain.{plain}
use Rattle.witx_ast.specs.Views.{tree_of}
use Rattle.witx_invoke.proofs.ReadParts.{const_taken}
use Rattle.witx_invoke.proofs.read.read_const_pointer.Goals as goal

pub returns : goal.returns
returns c = const_taken (plain (tree_of c.args.target.now)) c.args.text.now c.read_word-address.result c.read_word-address.ensures
