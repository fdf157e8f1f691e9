use Rattle.witx_ast.specs.Plain.{plain}
use Rattle.witx_ast.specs.Views.{tree_of}
use Rattle.witx_bytes.specs.Bytes.{held}
use Rattle.witx_bytes.proofs.Answered.{answer_spells, answer_none}
use Rattle.witx_bytes.proofs.read.read_value.Goals as goal

pub returns-in-Ok-clause-value : goal.returns-in-Ok-clause-value
returns-in-Ok-clause-value c = answer_spells (plain (tree_of c.args.ty.now)) (held c.args.memory.now) c.args.at c.read_laid-value.result c.bounds.ensures c.read_laid-value.ensures

pub returns-in-Ok-clause-no_value : goal.returns-in-Ok-clause-no_value
returns-in-Ok-clause-no_value c = answer_none (plain (tree_of c.args.ty.now)) (held c.args.memory.now) c.args.at c.read_laid-value.result c.requires.writable c.read_laid-value.ensures
