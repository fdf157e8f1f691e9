use Rattle.std.proofs.Common.{[], sym, ap, map}
use Rattle.std.proofs.lemmas.Result.{err_from_is_err_and}
use Rattle.witx_ast.specs.Definitions.{definition_tree}
use Rattle.witx_walk.specs.Meaning.{world}
use Rattle.witx_walk.proofs.Whole.{all-mean, means-as}
use Rattle.witx_walk.proofs.walk.read_all.Goals as goal

pub returns-in_err-take_all-clause-answer : goal.returns-in_err-take_all-clause-answer
returns-in_err-take_all-clause-answer g c = λ fs links reading ef el er.
    let p = err_from_is_err_and c.from_residual-in_err-take_all.result c.from_residual-in_err-take_all.ensures.1 in
    rw (p.1, p.2) (c.in_err-take_all.ensures.told fs links reading ef el er [] [] c.in_ok-walk.ensures.tracks)

pub returns-clause-answer : goal.returns-clause-answer
returns-clause-answer g c = λ fs links reading ef el er.
    let h = c.in_ok-take_all.ensures.told fs links reading ef el er [] [] c.in_ok-walk.ensures.tracks in
    (h.0, means-as (world fs links reading) _ _ _ (ap (map definition_tree) (sym c.into_document.ensures.definitions)) (all-mean (world fs links reading) _ _ h.1))
