use Rattle.std.proofs.Common.{◌≡◌, drop}
use Rattle.witx_base.specs.Found.{found}
use Rattle.witx_scope.proofs.names.place_of.Given as goal

abbrev pub invariant-loop-introduced : goal.invariant-loop-introduced
invariant-loop-introduced g l = found (drop l.introduced-index l.names) l.name ≡ found l.names l.name
