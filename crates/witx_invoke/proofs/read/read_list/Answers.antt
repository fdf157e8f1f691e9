use Rattle.witx_ast.specs.Plain.{plain}
use Rattle.witx_ast.specs.Views.{tree_of}
use Rattle.witx_invoke.proofs.ReadParts.{list_taken}
use Rattle.witx_invoke.proofs.read.read_list.Goals as goal

pub returns : goal.returns
returns c = list_taken (plain (tree_of c.args.target.now)) c.args.text.now c.in-Some.start.now c.in-Some.ensures c.read_word-address.result c.read_word-address.ensures c.in-Some-after.behind.now c.read_word-length.result c.in-Some-after.ensures c.read_word-length.ensures
