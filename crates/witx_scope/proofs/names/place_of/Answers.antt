use Rattle.std.proofs.Common.{◌∙◌, sym}
use Rattle.witx_scope.proofs.Earlier.{name-found, name-passed}
use Rattle.witx_scope.proofs.names.place_of.Goals as goal

pub returns-then-eq : goal.returns-then-eq
returns-then-eq g c = name-found _ _ c.introduced-item.result _ _ c.loop-introduced-test.true c.introduced-item.is (sym c.eq.ensures ∙ c.if-eq.true) c.loop-introduced.invariant

pub loop-introduced-preserved : goal.loop-introduced-preserved
loop-introduced-preserved g c = name-passed _ _ c.introduced-item.result _ _ c.loop-introduced-test.true c.introduced-item.is (sym c.eq.ensures ∙ c.if-eq.false) c.loop-introduced.invariant
