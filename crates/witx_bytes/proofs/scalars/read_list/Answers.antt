use Rattle.witx_ast.specs.Plain.{plain}
use Rattle.witx_ast.specs.Views.{tree_of}
use Rattle.witx_bytes.specs.Bytes.{held}
use Rattle.witx_bytes.proofs.ReadNumbers.{list_read}
use Rattle.witx_bytes.proofs.scalars.read_list.Goals as goal

pub returns : goal.returns
returns c = list_read (plain (tree_of c.args.target.now)) (held c.args.memory.now) c.args.at c.in_ok-address.address c.in_ok-length.length c.in_ok-address.ensures c.in_ok-length.ensures
