use Rattle.std.proofs.Common.{◌∙◌, sym}
use Rattle.witx_files.proofs.AliasSearch.{alias-found, alias-passed}
use Rattle.witx_files.proofs.failing.alias_of.Goals as goal

pub returns-then-eq : goal.returns-then-eq
returns-then-eq c = alias-found _ _ c.alias-item.result _ _ c.loop-alias-test.true c.alias-item.is (sym c.eq.ensures ∙ c.if-eq.true) c.loop-alias.invariant

pub loop-alias-preserved : goal.loop-alias-preserved
loop-alias-preserved c = alias-passed _ _ c.alias-item.result _ _ c.loop-alias-test.true c.alias-item.is (sym c.eq.ensures ∙ c.if-eq.false) c.loop-alias.invariant
