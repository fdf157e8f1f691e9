use Rattle.std.proofs.Common.{◌≡◌, ◌∙◌, ◌∷◌, [], ℕ, List, Some, ap, refl, sym}
use Rattle.witx_base.specs.Paths.{Path, file_name, parent}
use Rattle.witx_order.specs.Items.{Declared}
use Rattle.witx_order.specs.Walks.{place, reach, wish}
use Rattle.witx_order.proofs.HandedPaths.{nameless-ends, handed-reach}
use Rattle.witx_walk.specs.Meaning.{world}
use Rattle.witx_walk.proofs.walk.take_handed.Goals as goal

pub returns-in-None-clause-told : goal.returns-in-None-clause-told
returns-in-None-clause-told g c = λ fs links reading ef el er left taken ds k.
    (refl, nameless-ends (world fs links reading) _ _ left _ _ c.in_ok-copy.ensures (sym c.in-None.ensures))

copy-reached : (p q : Path) (n : List ℕ) (d : Path) (left taken : List Path) (ds : List Declared) → q ≡ p → file_name p ≡ Some n → parent p ≡ Some d
    → wish (place [] (p ∷ left) taken ds) ≡ reach (place [] left taken ds) q d
copy-reached p q n d left taken ds k e f = handed-reach p n d left taken ds e f ∙ ap (λ joined. reach (place [] left taken ds) joined d) (sym k)

pub returns-in-Some-2-clause-told : goal.returns-in-Some-2-clause-told
returns-in-Some-2-clause-told g c = λ fs links reading ef el er left taken ds k.
    c.take_in.ensures.told fs links reading ef el er (place [] (c.args.path.now ∷ left) taken ds) [] left taken ds k
    (copy-reached _ _ _ _ left _ _ c.in_ok-copy.ensures (sym c.in-Some.ensures) (sym c.in_ok-directory-in-Some.ensures ∙ c.in-Some-2.is))
