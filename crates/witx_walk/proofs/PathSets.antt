-- The set of the paths that were taken in has those of the list of the definition.
use Rattle.std.proofs.Common.{◌≡◌, ◌+◌, List, [], ◌∷◌, ◌++◌, Bool, true, false, refl, sym, ap, ◌∙◌, subst, length-append, cond, not, if◌then◌else◌}
use Rattle.std.specs.BTreeSet.{BTreeSet, btree_set_len}
use Rattle.witx_base.specs.Paths.{Path}
use Rattle.witx_base.specs.PathOrder.{same_path}
use Rattle.witx_order.specs.Walks.{is_taken}
use Rattle.witx_order.specs.Items.{Declared}
use Rattle.witx_walk.specs.Steps.{has_path, HasPaths, Tracks}
use Rattle.witx_walk.specs.declared.path_set.PathSet.{PathSet}
use Rattle.witx_walk.specs.declared.walking.Walking.{Walking}

exchange : (a b c : Bool) → cond a true (cond b true c) ≡ cond b true (cond a true c)
exchange true true c = refl
exchange true false c = refl
exchange false true c = refl
exchange false false c = refl

taken-more : (taken : List Path) (p q : Path) → is_taken (taken ++ p ∷ []) q ≡ cond (same_path p q) true (is_taken taken q)
taken-more [] p q = refl
taken-more (o ∷ taken) p q = ap (λ b. cond (same_path o q) true b) (taken-more taken p q) ∙ exchange (same_path o q) (same_path p q) (is_taken taken q)

module _ (paths : BTreeSet Path) (taken : List Path) (h : HasPaths paths taken) where
  pub is-taken : (p : Path) (b c : Bool) → b ≡ has_path paths p → b ≡ c → is_taken taken p ≡ c
  is-taken p b c e f = sym (h.known p) ∙ (sym e ∙ f)

  pub has-more : (paths' : BTreeSet Path) (p : Path) → has_path paths p ≡ false
      → ((q : Path) → has_path paths' q ≡ cond (same_path p q) true (has_path paths q))
      → (has_path paths p ≡ false → btree_set_len paths' ≡ btree_set_len paths + 1)
      → HasPaths paths' (taken ++ p ∷ [])
  has-more paths' p new known count = record {
    known = λ q. known q ∙ (ap (λ b. cond (same_path p q) true b) (h.known q) ∙ sym (taken-more taken p q));
    count = count new ∙ (ap (λ n. n + 1) h.count ∙ sym (length-append taken (p ∷ [])));
  }

pub insert-count : (paths paths' : BTreeSet Path) (p q : Path) (added : Bool) → q ≡ p → added ≡ not (has_path paths q)
    → btree_set_len paths' ≡ btree_set_len paths + (if added then 1 else 0) → has_path paths p ≡ false → btree_set_len paths' ≡ btree_set_len paths + 1
insert-count paths paths' p q added e a l f = l ∙ ap (λ b. btree_set_len paths + (if b then 1 else 0)) (a ∙ ap not (ap (has_path paths) e ∙ f))

pub paths-kept : (t t' : PathSet) (taken : List Path) → t' ≡ t → HasPaths t.paths taken → HasPaths t'.paths taken
paths-kept t t' taken e h = let P : PathSet → Type 0 = λ x. HasPaths x.paths taken in subst P (sym e) h

pub tracks-more : (walk : Walking) (taken : List Path) (ds : List Declared) (t : PathSet) (p : Path) → Tracks walk taken ds → HasPaths t.paths (taken ++ p ∷ [])
    → Tracks (record walk { taken = t }) (taken ++ p ∷ []) ds
tracks-more walk taken ds t p h paths = record {
  paths = paths;
  holding = record { keeps = h.holding.keeps; definitions = h.holding.definitions; fits = h.holding.fits; ordered = h.holding.ordered; closed = h.holding.closed };
}
