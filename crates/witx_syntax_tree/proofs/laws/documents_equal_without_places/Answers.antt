use Rattle.witx_syntax_tree.proofs.Decided.{told, document-decides}
use Rattle.witx_syntax_tree.proofs.laws.documents_equal_without_places.Goals as goal

pub returns : goal.returns
returns c = told _ _ _ (document-decides _ _) c.eq.ensures
