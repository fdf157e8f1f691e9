use Rattle.witx_walk.proofs.PathSets.{insert-count}
use Rattle.witx_walk.proofs.path_set.PathSet.insert.Goals as goal

pub returns-clause-count : goal.returns-clause-count
returns-clause-count c = λ f. insert-count _ _ _ _ _ c.in_ok-copy.ensures c.in_ok-insert.ensures.added c.in_ok-insert.ensures.len f
