use Rattle.std.proofs.Common.{cond, Some, is_eq, nat_cmp, ◌∙◌, ap, sym, arith}
use Rattle.std.proofs.lemmas.Grind.{common_steps}
use Rattle.witx_ast.specs.Views.{cases_plain}
use Rattle.std.specs.Cmp.Lexicographic.{slice_cmp}
use Rattle.witx_ast.specs.declared.types.Case.{Case}
use Rattle.witx_base.specs.Found.{found}
use Rattle.witx_compat.specs.Represents.{last_place}
use Rattle.witx_compat.proofs.Steps.{put-place}
use Rattle.witx_compat.proofs.places.last_places.Goals as goal

pub loop-i-preserved : goal.loop-i-preserved
loop-i-preserved c = record {
  places = put-place c.args.cases.now c.loop-i.i c.index-cases-i.result c.loop-i.places c.insert.new.self (λ q. last_place q (cases_plain c.args.cases.now)) c.loop-i-test.true c.index-cases-i.is (λ q. c.in_ok-insert.ensures.found q ∙ ap (λ k. cond (is_eq (slice_cmp nat_cmp k q)) (Some c.loop-i.i) (found c.loop-i.places q)) (c.in_ok-copy.ensures ∙ ap (λ (x : Case). x.name) (sym c.index-cases-i.is))) c.loop-i.invariant.places;
}

pub returns : goal.returns
returns c = grind (arith, common_steps)
