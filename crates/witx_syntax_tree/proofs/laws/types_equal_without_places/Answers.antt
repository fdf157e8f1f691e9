use Rattle.witx_syntax_tree.proofs.Decided.{told, type-decides}
use Rattle.witx_syntax_tree.proofs.laws.types_equal_without_places.Goals as goal

pub returns : goal.returns
returns c = told _ _ _ (type-decides _ _) c.eq.ensures
