-- What the items of a file, and the handed paths, lead to one by one.
use Rattle.std.proofs.Common.{◌≡◌, ℕ, ◌+◌, ◌<◌, List, [], ◌∷◌, ◌++◌, refl, sym, ap, ◌∙◌, subst, map, length, drop, get_or, Result, Ok, Err}
use Rattle.std.proofs.lemmas.List.{drop_more}
use Rattle.witx_base.specs.Paths.{Path, join, path_of}
use Rattle.witx_syntax_tree.specs.Trees.{NotedItem, FormTree}
use Rattle.witx_comments.specs.Comments.{comments_view}
use Rattle.witx_syntax_tree.specs.Views.{noted_item, item_view, declaration_view}
use Rattle.witx_comments.specs.declared.comment.Documented.{Documented}
use Rattle.witx_syntax_tree.specs.declared.tree.DeclSyntax.{DeclSyntax}
use Rattle.witx_syntax_tree.specs.declared.tree.DeclSyntax.TheVariants as decl
use Rattle.witx_syntax_tree.specs.declared.tree.TopLevelSyntax.{TopLevelSyntax}
use Rattle.witx_syntax_tree.specs.declared.tree.TopLevelSyntax.TheVariants as top
use Rattle.witx_scope.specs.Faults.{Fault}
use Rattle.witx_order.specs.Items.{TextItem, declaration, use_of, item_at, item_of, items_of, Declared}
use Rattle.witx_order.specs.Walks.{World, OpenFile, open_file, declared_in, Place, place, wish, reach}
use Rattle.witx_order.specs.Verdicts.{Leads}
use Rattle.witx_order.proofs.Steps.{leads-trans, closes, declares, faulty-ends}
use Rattle.witx_walk.specs.Answers.{RefusesFiles}
use Rattle.witx_walk.specs.Steps.{WalkOutcome, ReachesPlace, Tracks, HasPaths, IsDeclared}
use Rattle.witx_walk.specs.declared.error.WitxError.{WitxError}
use Rattle.witx_walk.specs.declared.error.WitxError.TheVariants.{Io, Parse, Validation, BadPath, TooManyFiles, OutOfMemory}
use Rattle.witx_walk.specs.declared.walking.Walking.{Walking}
use Rattle.witx_walk.proofs.Reached.{outcome-after, refuses-after}

decl-at : (n : NotedItem) (d : DeclSyntax) → item_at n (declaration_view d) ≡ declaration n
decl-at n (decl.Typename t) = refl
decl-at n (decl.Module m) = refl
decl-at n (decl.Const c) = refl

noted : Documented TopLevelSyntax → DeclSyntax → NotedItem
noted x d = record { comments = comments_view x.comments; item = declaration_view d }

abbrev at_view : Documented TopLevelSyntax → FormTree → TextItem
at_view x t = item_at (record { comments = comments_view x.comments; item = t }) t

pub declaration-is : (x : Documented TopLevelSyntax) (d : DeclSyntax) → x.item ≡ top.Decl d
    → item_of (noted_item x) ≡ declaration (record { comments = comments_view x.comments; item = declaration_view d })
declaration-is x d e = ap (λ t. at_view x (item_view t)) e ∙ decl-at (record { comments = comments_view x.comments; item = declaration_view d }) d

pub use-is : (x : Documented TopLevelSyntax) (u : List ℕ) → x.item ≡ top.Use u → item_of (noted_item x) ≡ use_of u
use-is x u e = ap (λ t. at_view x (item_view t)) e

pub items-more : (xs : List (Documented TopLevelSyntax)) (i : ℕ) (x : Documented TopLevelSyntax) → i < length xs → x ≡ get_or xs i x
    → items_of (map noted_item (drop i xs)) ≡ item_of (noted_item x) ∷ items_of (map noted_item (drop (i + 1) xs))
items-more xs i x l e = ap (λ ys. items_of (map noted_item ys)) (drop_more xs i x l ∙ ap (λ y. y ∷ drop (i + 1) xs) (sym e))

pub paths-more : (xs : List Path) (i : ℕ) (x : Path) → i < length xs → x ≡ get_or xs i x → drop i xs ≡ x ∷ drop (i + 1) xs
paths-more xs i x l e = drop_more xs i x l ∙ ap (λ y. y ∷ drop (i + 1) xs) (sym e)

module _ (w : World Fault) where
  -- where what is kept reaches a place, and from there an answer leads on
  pub onward : {U : Type 0} (at : Place) (b c : List Path → List Declared → Place) (walk walk' : Walking) (mid before now : ℕ) (r : Result U WitxError)
      → mid ≡ before → ReachesPlace w walk at b
      → ((taken : List Path) (ds : List Declared) → Tracks walk taken ds → WalkOutcome w (b taken ds) c walk' mid now r)
      → WalkOutcome w at c walk' before now r
  onward at b c walk walk' mid before now r m h k = outcome-after w at (b h.0 h.1.0) c walk' mid before now r m h.1.1.1 (k h.0 h.1.0 h.1.1.0)

  module _ (p : Path) (text : List ℕ) (folder : Path) (outer : List OpenFile) (handed : List Path) where
    abbrev pub file_at : List TextItem → List Path → List Declared → Place
    file_at left taken ds = place (open_file p text folder (Ok left) ∷ outer) handed taken ds

    pub declared-taken : {U : Type 0} (taken : List Path) (ds : List Declared) (walk : Walking) (n : NotedItem) (item : TextItem) (left : List TextItem) (before now : ℕ) (r : Result U WitxError)
        → now ≡ before → item ≡ declaration n → HasPaths walk.taken.paths taken → IsDeclared (w.fault_of ds (declared_in p text n)) ds (declared_in p text n) walk r
        → WalkOutcome w (file_at (item ∷ left) taken ds) (file_at left) walk before now r
    declared-taken taken ds walk n item left before now (Ok u) m e h k =
        let P : TextItem → Type 0 = λ x. Leads w (file_at (x ∷ left) taken ds) (file_at left taken (ds ++ declared_in p text n ∷ [])) in
        (m, (taken, (ds ++ declared_in p text n ∷ [], (record { paths = h; holding = k.1 }, subst P (sym e) (declares w p text folder outer handed taken ds n left k.0)))))
    declared-taken taken ds walk n item left before now (Err (Validation f)) m e h k =
        let P : TextItem → Type 0 = λ x. RefusesFiles w (file_at (x ∷ left) taken ds) before now (Validation f) in
        subst P (sym e) (m, faulty-ends w p text folder outer handed taken ds n left _ k)
    declared-taken taken ds walk n item left before now (Err OutOfMemory) m e h k = m
    declared-taken taken ds walk n item left before now (Err (Io q f)) m e h k = absurd k
    declared-taken taken ds walk n item left before now (Err (BadPath q)) m e h k = absurd k
    declared-taken taken ds walk n item left before now (Err (TooManyFiles q)) m e h k = absurd k
    declared-taken taken ds walk n item left before now (Err (Parse x)) m e h k = absurd k

    pub use-wish : (taken : List Path) (ds : List Declared) (u : List ℕ) (item : TextItem) (left : List TextItem) (joined used : Path) → item ≡ use_of u → used ≡ path_of u → joined ≡ join folder used
        → wish (file_at (item ∷ left) taken ds) ≡ reach (file_at left taken ds) joined folder
    use-wish taken ds u item left joined used q a b = rw (q, b, a) refl

    -- the items to come, as they are written
    pub onward-items : {U : Type 0} (at : Place) (xs ys : List TextItem) (c : List Path → List Declared → Place) (walk walk' : Walking) (mid before now : ℕ) (r : Result U WitxError)
        → mid ≡ before → xs ≡ ys → ReachesPlace w walk at (file_at xs)
        → ((taken : List Path) (ds : List Declared) → Tracks walk taken ds → WalkOutcome w (file_at ys taken ds) c walk' mid now r)
        → WalkOutcome w at c walk' before now r
    onward-items at xs ys c walk walk' mid before now r m e h k =
        let P : List TextItem → Type 0 = λ zs. ReachesPlace w walk at (file_at zs) in
        onward at (file_at ys) c walk walk' mid before now r m (subst P e h) k

    pub items-refused : (at : Place) (xs ys : List TextItem) (walk : Walking) (mid before now : ℕ) (x : WitxError) → mid ≡ before → xs ≡ ys → ReachesPlace w walk at (file_at xs)
        → ((taken : List Path) (ds : List Declared) → Tracks walk taken ds → RefusesFiles w (file_at ys taken ds) mid now x) → RefusesFiles w at before now x
    items-refused at xs ys walk mid before now x m e h k =
        let P : List TextItem → Type 0 = λ zs. Leads w at (file_at zs h.0 h.1.0) in
        refuses-after w at (file_at ys h.0 h.1.0) mid before now x m (subst P e h.1.1.1) (k h.0 h.1.0 h.1.1.0)

    pub all-taken : (at : Place) (xs : List TextItem) (walk : Walking) → xs ≡ [] → ReachesPlace w walk at (file_at xs) → ReachesPlace w walk at (place outer handed)
    all-taken at xs walk e h =
        let P : List TextItem → Type 0 = λ zs. Leads w at (file_at zs h.0 h.1.0) in
        (h.0, (h.1.0, (h.1.1.0, leads-trans w (subst P e h.1.1.1) (closes w p text folder outer handed h.0 h.1.0))))

  pub onward-paths : {U : Type 0} (at : Place) (xs ys : List Path) (c : List Path → List Declared → Place) (walk walk' : Walking) (mid before now : ℕ) (r : Result U WitxError)
      → mid ≡ before → xs ≡ ys → ReachesPlace w walk at (place [] xs)
      → ((taken : List Path) (ds : List Declared) → Tracks walk taken ds → WalkOutcome w (place [] ys taken ds) c walk' mid now r)
      → WalkOutcome w at c walk' before now r
  onward-paths at xs ys c walk walk' mid before now r m e h k =
      let P : List Path → Type 0 = λ zs. ReachesPlace w walk at (place [] zs) in
      onward at (place [] ys) c walk walk' mid before now r m (subst P e h) k

  pub paths-refused : (at : Place) (xs ys : List Path) (walk : Walking) (mid before now : ℕ) (x : WitxError) → mid ≡ before → xs ≡ ys → ReachesPlace w walk at (place [] xs)
      → ((taken : List Path) (ds : List Declared) → Tracks walk taken ds → RefusesFiles w (place [] ys taken ds) mid now x) → RefusesFiles w at before now x
  paths-refused at xs ys walk mid before now x m e h k =
      let P : List Path → Type 0 = λ zs. Leads w at (place [] zs h.0 h.1.0) in
      refuses-after w at (place [] ys h.0 h.1.0) mid before now x m (subst P e h.1.1.1) (k h.0 h.1.0 h.1.1.0)

  pub all-handed : (at : Place) (xs : List Path) (walk : Walking) → xs ≡ [] → ReachesPlace w walk at (place [] xs) → ReachesPlace w walk at (place [] [])
  all-handed at xs walk e h = let P : List Path → Type 0 = λ zs. ReachesPlace w walk at (place [] zs) in subst P e h
