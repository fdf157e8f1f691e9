use Rattle.witx_ast.proofs.Trees.{tree-Value}
use Rattle.witx_docs.proofs.markdown.datatype_shown.Goals as goal

pub returns : goal.returns
returns c = rw (tree-Value c.in_ok-new.field-0, c.in_ok-new.ensures.ok, c.in_ok-copy.ensures) at c.shown-ty.ensures
