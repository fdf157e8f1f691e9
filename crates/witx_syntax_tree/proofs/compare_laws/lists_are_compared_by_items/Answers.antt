use Rattle.witx_syntax_tree.proofs.Compared.{documented-compare, lists-compare}
use Rattle.witx_syntax_tree.proofs.compare_laws.lists_are_compared_by_items.Goals as goal

pub returns-clause-documented : goal.returns-clause-documented
returns-clause-documented g c reading h = documented-compare g.T.PartialEq.eq g.T.Duplicate.is_copy reading h

pub returns-clause-lists : goal.returns-clause-lists
returns-clause-lists g c reading h = lists-compare g.T.PartialEq.eq g.T.Duplicate.is_copy reading h
