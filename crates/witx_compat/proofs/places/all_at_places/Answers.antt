use Rattle.std.proofs.Common.{◌∙◌, ap, sym}
use Rattle.witx_ast.specs.Views.{cases_plain}
use Rattle.witx_ast.specs.declared.types.Case.{Case}
use Rattle.witx_compat.specs.Heads.{is_place}
use Rattle.witx_compat.specs.Represents.{last_place}
use Rattle.witx_compat.proofs.Heads.{placed-next, misplaced-here, placed-all}
use Rattle.witx_compat.proofs.places.all_at_places.Goals as goal

pub returns-then-not-is_at : goal.returns-then-not-is_at
returns-then-not-is_at c =
    misplaced-here c.args.cases.now c.loop-i.i c.index-cases-i.result (cases_plain c.args.by.now) _ c.loop-i-test.true c.index-cases-i.is
    (ap (λ (x : Case). is_place c.loop-i.i (last_place x.name (cases_plain c.args.by.now))) c.index-cases-i.is
    ∙ ap (is_place c.loop-i.i) (sym c.place_of.ensures) ∙ sym c.is_at.ensures ∙ c.if-not-is_at.true) c.loop-i.invariant.placed

pub loop-i-preserved : goal.loop-i-preserved
loop-i-preserved c = record {
  placed =
      placed-next c.args.cases.now c.loop-i.i c.index-cases-i.result (cases_plain c.args.by.now) _ c.loop-i-test.true c.index-cases-i.is
      (ap (λ (x : Case). is_place c.loop-i.i (last_place x.name (cases_plain c.args.by.now))) c.index-cases-i.is
      ∙ ap (is_place c.loop-i.i) (sym c.place_of.ensures) ∙ sym c.is_at.ensures ∙ c.if-not-is_at.false) c.loop-i.invariant.placed;
}

pub returns : goal.returns
returns c = placed-all c.args.cases.now c.loop-i.i (cases_plain c.args.by.now) _ c.loop-i-test.false c.loop-i.invariant.placed
