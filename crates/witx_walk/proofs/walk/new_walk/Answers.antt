use Rattle.witx_walk.proofs.Starting.{starts-so}
use Rattle.witx_walk.proofs.walk.new_walk.Goals as goal

pub returns-clause-tracks : goal.returns-clause-tracks
returns-clause-tracks c = starts-so _ c.in_ok-new.ensures c.new-2.ensures c.new-3.ensures
