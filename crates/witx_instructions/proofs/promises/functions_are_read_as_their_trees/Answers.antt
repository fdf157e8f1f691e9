use Rattle.witx_instructions.proofs.Called.{called-same}
use Rattle.witx_instructions.proofs.promises.functions_are_read_as_their_trees.Goals as goal

pub returns : goal.returns
returns c = called-same
