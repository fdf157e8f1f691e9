use Rattle.witx_syntax_tree.proofs.Decided.{told, text-decides}
use Rattle.witx_syntax_tree.proofs.laws.identifiers_equal_by_name.Goals as goal

pub returns : goal.returns
returns c = told _ _ _ (text-decides _ _) c.eq.ensures
