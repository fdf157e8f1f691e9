-- A handed path is its directory joined with its file name, so it may be passed on as it is.
use Rattle.std.proofs.Common.{◌≡◌, ℕ, List, [], ◌∷◌, sym, ap, ◌∙◌, Some, None}
use Rattle.witx_base.specs.Paths.{Path, file_name, all_but_last, parent}
use Rattle.witx_base.proofs.ParentAndName.{joined-is, parent-is}
use Rattle.witx_order.specs.Items.{Declared}
use Rattle.witx_order.specs.Walks.{World, place, wish, reach, nameless, handed_wish, bad_path, met}
use Rattle.witx_order.specs.Verdicts.{Ends, refused, turned}
use Rattle.witx_order.proofs.Steps.{stopped}

pub handed-reach : (p : Path) (n : List ℕ) (d : Path) (left taken : List Path) (ds : List Declared) → file_name p ≡ Some n → parent p ≡ Some d
    → wish (place [] (p ∷ left) taken ds) ≡ reach (place [] left taken ds) p d
handed-reach p n d left taken ds e f =
    ap (λ x. handed_wish x p (place [] left taken ds)) e
    ∙ (ap (λ j. reach (place [] left taken ds) j (all_but_last p)) (joined-is p n e) ∙ ap (λ x. reach (place [] left taken ds) p x) (sym (parent-is p d f)))

pub nameless-ends : {F : Type 0} (w : World F) (p q : Path) (left taken : List Path) (ds : List Declared) → q ≡ p → file_name p ≡ None → Ends w (place [] (p ∷ left) taken ds) (refused (bad_path q))
nameless-ends w p q left taken ds k e = stopped w _ _ (ap (λ x. turned w ds (met w (handed_wish x p (place [] left taken ds)))) e ∙ ap (λ x. turned w ds (met w (nameless x))) (sym k))
