use Rattle.std.proofs.Common.{◌∙◌, ◌+◌, refl, drop, Ok}
use Rattle.std.proofs.lemmas.List.{drop_all}
use Rattle.std.proofs.lemmas.Result.{err_from_is_err_and}
use Rattle.witx_order.specs.Verdicts.{here}
use Rattle.witx_walk.specs.Meaning.{world}
use Rattle.witx_walk.proofs.Items.{paths-more, onward-paths, paths-refused, all-handed}
use Rattle.witx_walk.proofs.walk.take_all.Goals as goal

pub loop-path-init : goal.loop-path-init
loop-path-init g c = record {
  files = refl;
  aliases = refl;
  count = refl;
  well = λ h. h;
  told = λ fs links reading ef el er taken ds k. (taken, (ds, (k, here _)));
}

pub returns-in_err-take_handed-clause-told : goal.returns-in_err-take_handed-clause-told
returns-in_err-take_handed-clause-told g c = λ fs links reading ef el er taken ds k.
    let p = err_from_is_err_and c.from_residual.result c.from_residual.ensures.1 in
    rw (p.1, p.2)
    (paths-refused (world fs links reading) _ _ _ _ _ _ _ _
    c.loop-path.invariant.count (paths-more _ _ _ c.loop-path-test.true c.path-item.is) (c.loop-path.invariant.told fs links reading ef el er taken ds k)
    (λ taken' ds' k'. c.in_err-take_handed.ensures.told fs links reading (c.loop-path.invariant.files ∙ ef) (c.loop-path.invariant.aliases ∙ el) er
    (drop (c.loop-path.path-index + 1) c.args.paths.now) taken' ds' k'))

pub loop-path-preserved : goal.loop-path-preserved
loop-path-preserved g c = record {
  files = c.in_ok-take_handed.ensures.files ∙ c.loop-path.invariant.files;
  aliases = c.in_ok-take_handed.ensures.aliases ∙ c.loop-path.invariant.aliases;
  count = c.in_ok-take_handed.ensures.cause ∙ c.loop-path.invariant.count;
  well = λ w. c.in_ok-take_handed.ensures.well (c.loop-path.invariant.well w);
  told = λ fs links reading ef el er taken ds k.
      (onward-paths (world fs links reading) _ _ _ _ _ _ _ _ _ (Ok c.in_ok-take_handed.field-0)
      c.loop-path.invariant.count (paths-more _ _ _ c.loop-path-test.true c.path-item.is) (c.loop-path.invariant.told fs links reading ef el er taken ds k)
      (λ taken' ds' k'. c.in_ok-take_handed.ensures.told fs links reading (c.loop-path.invariant.files ∙ ef) (c.loop-path.invariant.aliases ∙ el) er
      (drop (c.loop-path.path-index + 1) c.args.paths.now) taken' ds' k')).1;
}

pub returns-clause-told : goal.returns-clause-told
returns-clause-told g c = λ fs links reading ef el er taken ds k. (
  c.loop-path.invariant.count,
  all-handed (world fs links reading) _ _ _ (drop_all _ _ c.loop-path-test.false) (c.loop-path.invariant.told fs links reading ef el er taken ds k),
)
