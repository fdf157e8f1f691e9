-- The fronts step by step are exactly those by their groups.
use Rattle.std.proofs.Common.{◌≡◌, ℕ, List, [], ◌∷◌, ◌++◌, refl, sym, ap, ◌∙◌, subst, Option, Some, None, Result, Ok, Err, ◌⊎◌, inl, inr, append_assoc}
use Rattle.witx_base.specs.Paths.{Path, file_name, join, path_of, all_but_last}
use Rattle.witx_syntax_tree.specs.Trees.{NotedItem}
use Rattle.witx_order.specs.Items.{TextItem, declaration, use_of, Declared, SyntaxFault}
use Rattle.witx_order.specs.Walks.{World, Mark, start, decl, skip, end, OpenFile, open_file, declared_in, Place, place, wish, reach, handed_wish, inner_wish, go, next, met, reached, is_taken, folder_of, Marks, none, more, IsFront}
use Rattle.witx_order.specs.Groups.{Contents, no_items, declared, used, Reached, skipped, opened, StartsOnce}
use Rattle.witx_order.specs.GroupFronts.{ContentsFront, stops, declares, uses, stops_inside, OpenGroup, begun, read, HandedFront, stops_there, hands, stops_in_it, IsGroupedFront}
use Rattle.witx_order.proofs.Grouping.{same-mark, same-place, same-ok, reach-cases, Closes, Group, marks-append, start-any, start-next, reached-gone, once-of}

module _ {F : Type 0} (w : World F) where
  -- the marks that are left are a front of those of the file's items that are left, and the file stays open
  record Goes (f : OpenFile) (ms : List Mark) : Type 0 where
    xs : List TextItem
    left_is : f.left ≡ Ok xs
    contents : ContentsFront w f.path f.text f.folder xs ms

  abbrev Stays : OpenFile → List Mark → Type 0
  Stays f ms = (ms ≡ []) ⊎ Goes f ms

  abbrev Rest : List OpenFile → List Path → List Mark → Type 0
  Rest [] hs ms = HandedFront w hs ms
  Rest (f ∷ o) hs ms = Stays f ms ⊎ Closes w f ms (λ ns. Rest o hs ns)

  file_stays : (j d : Path) (text : List ℕ) (o : List OpenFile) (hs : List Path) (ms : List Mark) → w.text_at (w.canonical j) ≡ Some text
      → Stays (open_file (w.canonical j) text (folder_of (w.canonical j) d) (w.reading text)) ms → OpenGroup w j d (start (w.canonical j) d ∷ ms)
  file_stays j d text o hs ms q (inl none_left) = subst (λ x. OpenGroup w j d (start (w.canonical j) d ∷ x)) (sym none_left) (begun j d text q)
  file_stays j d text o hs ms q (inr k) = read j d text k.xs ms q k.left_is k.contents

  file_starts : (pl : Place) (j d : Path) (text : List ℕ) (ms : List Mark) → w.text_at (w.canonical j) ≡ Some text
      → Rest (open_file (w.canonical j) text (folder_of (w.canonical j) d) (w.reading text) ∷ pl.open_files) pl.handed ms
      → Group w Rest pl j d (start (w.canonical j) d ∷ ms) ⊎ OpenGroup w j d (start (w.canonical j) d ∷ ms)
  file_starts pl j d text ms q (inl k) = inr (file_stays j d text pl.open_files pl.handed ms q k)
  file_starts pl j d text ms q (inr k) = inl (record {
    group = start (w.canonical j) d ∷ (k.inner ++ end (w.canonical j) ∷ []);
    behind = k.outer;
    reaches = opened j d text k.xs k.inner q k.left_is k.contents;
    splits = ap (λ x. start (w.canonical j) d ∷ x) (k.splits ∙ sym (append_assoc k.inner (end (w.canonical j) ∷ []) k.outer));
    rest = k.rest;
  })

  group-of : (pl : Place) (j d : Path) (m : Mark) (b : Place) (ms : List Mark) → reached w pl (w.canonical j) d ≡ go m b → Rest b.open_files b.handed ms
      → Group w Rest pl j d (m ∷ ms) ⊎ OpenGroup w j d (m ∷ ms)
  group-of pl j d m b ms e h =
      let P : Place → Type 0 = λ x. Rest x.open_files x.handed ms in
      elim (reach-cases w pl (w.canonical j) d (is_taken pl.taken (w.canonical j)) m b refl e) [
        | inl s ↦ inl (record { group = skip (w.canonical j) ∷ []; behind = ms; reaches = skipped j d; splits = ap (λ x. x ∷ ms) s.mark; rest = subst P s.at h })
        | inr s ↦ subst (λ x. Group w Rest pl j d (x ∷ ms) ⊎ OpenGroup w j d (x ∷ ms)) (sym s.mark) (file_starts pl j d s.text ms s.holds (subst P s.at h))
      ]

  outer-group : (p : Path) (n : List ℕ) (ps taken : List Path) (ds : List Declared) (ms : List Mark) → file_name p ≡ Some n
      → Group w Rest (place [] ps taken ds) (join (all_but_last p) (n ∷ [])) (all_but_last p) ms ⊎ OpenGroup w (join (all_but_last p) (n ∷ [])) (all_but_last p) ms → HandedFront w (p ∷ ps) ms
  outer-group p n ps taken ds ms q (inl g) =
      let P : List Mark → Type 0 = λ x. HandedFront w (p ∷ ps) x in
      subst P (sym g.splits) (hands p n ps g.group g.behind q g.reaches g.rest)
  outer-group p n ps taken ds ms q (inr g) = stops_in_it p n ps ms q g

  outer-step : (o : Option (List ℕ)) (p : Path) (ps taken : List Path) (ds : List Declared) (m : Mark) (b : Place) (ms : List Mark) → file_name p ≡ o
      → met w (handed_wish o p (place [] ps taken ds)) ≡ go m b → Rest b.open_files b.handed ms → HandedFront w (p ∷ ps) (m ∷ ms)
  outer-step None p ps taken ds m b ms q e h = absurd (cc)
  outer-step (Some n) p ps taken ds m b ms q e h =
      outer-group p n ps taken ds (m ∷ ms) q (group-of (place [] ps taken ds) (join (all_but_last p) (n ∷ [])) (all_but_last p) m b ms e h)

  abbrev Inner : Path → List ℕ → Path → List TextItem → List OpenFile → List Path → List Mark → Type 0
  Inner p text folder xs o hs ms = Rest (open_file p text folder (Ok xs) ∷ o) hs ms

  -- behind a declaration
  declared-step : (p : Path) (text : List ℕ) (folder : Path) (xs : List TextItem) (o : List OpenFile) (hs : List Path) (x : NotedItem) (ms : List Mark)
      → Inner p text folder xs o hs ms → Inner p text folder (declaration x ∷ xs) o hs (decl (declared_in p text x) ∷ ms)
  declared-step p text folder xs o hs x ms (inl (inl none_left)) =
      inl (inr (record { xs = declaration x ∷ xs; left_is = refl; contents = declares p text folder x xs ms (subst (λ y. ContentsFront w p text folder xs y) (sym none_left) (stops p text folder xs)) }))
  declared-step p text folder xs o hs x ms (inl (inr k)) =
      let Q : List TextItem → Type 0 = λ ys. ContentsFront w p text folder ys ms in
      inl (inr (record { xs = declaration x ∷ xs; left_is = refl; contents = declares p text folder x xs ms (subst Q (sym (same-ok k.left_is)) k.contents) }))
  declared-step p text folder xs o hs x ms (inr k) =
      let Q : List TextItem → Type 0 = λ ys. Contents w p text folder ys k.inner in
      inr (record {
        xs = declaration x ∷ xs;
        inner = decl (declared_in p text x) ∷ k.inner;
        outer = k.outer;
        left_is = refl;
        contents = declared p text folder x xs k.inner (subst Q (sym (same-ok k.left_is)) k.contents);
        splits = ap (λ y. decl (declared_in p text x) ∷ y) k.splits;
        rest = k.rest;
      })

  -- behind a whole group
  used-step : (p : Path) (text : List ℕ) (folder : Path) (xs : List TextItem) (o : List OpenFile) (hs : List Path) (u : List ℕ) (group ms : List Mark)
      → Reached w (join folder (path_of u)) folder group → Inner p text folder xs o hs ms → Inner p text folder (use_of u ∷ xs) o hs (group ++ ms)
  used-step p text folder xs o hs u group ms g (inl (inl none_left)) =
      inl (inr (record { xs = use_of u ∷ xs; left_is = refl; contents = uses p text folder u xs group ms g (subst (λ y. ContentsFront w p text folder xs y) (sym none_left) (stops p text folder xs)) }))
  used-step p text folder xs o hs u group ms g (inl (inr k)) =
      let Q : List TextItem → Type 0 = λ ys. ContentsFront w p text folder ys ms in
      inl (inr (record { xs = use_of u ∷ xs; left_is = refl; contents = uses p text folder u xs group ms g (subst Q (sym (same-ok k.left_is)) k.contents) }))
  used-step p text folder xs o hs u group ms g (inr k) =
      let Q : List TextItem → Type 0 = λ ys. Contents w p text folder ys k.inner in
      inr (record {
        xs = use_of u ∷ xs;
        inner = group ++ k.inner;
        outer = k.outer;
        left_is = refl;
        contents = used p text folder u xs group k.inner g (subst Q (sym (same-ok k.left_is)) k.contents);
        splits = ap (λ x. group ++ x) k.splits ∙ sym (append_assoc group k.inner (end p ∷ k.outer));
        rest = k.rest;
      })

  inner-group : (p : Path) (text : List ℕ) (folder : Path) (xs : List TextItem) (o : List OpenFile) (hs taken : List Path) (ds : List Declared) (u : List ℕ) (ms : List Mark)
      → Group w Rest (place (open_file p text folder (Ok xs) ∷ o) hs taken ds) (join folder (path_of u)) folder ms ⊎ OpenGroup w (join folder (path_of u)) folder ms
      → Inner p text folder (use_of u ∷ xs) o hs ms
  inner-group p text folder xs o hs taken ds u ms (inl g) =
      let P : List Mark → Type 0 = λ x. Inner p text folder (use_of u ∷ xs) o hs x in
      subst P (sym g.splits) (used-step p text folder xs o hs u g.group g.behind g.reaches g.rest)
  inner-group p text folder xs o hs taken ds u ms (inr g) = inl (inr (record { xs = use_of u ∷ xs; left_is = refl; contents = stops_inside p text folder u xs ms g }))

  inner-step : (p : Path) (text : List ℕ) (folder : Path) (left : Result (List TextItem) SyntaxFault) (o : List OpenFile) (hs taken : List Path) (ds : List Declared) (m : Mark) (b : Place) (ms : List Mark)
      → met w (inner_wish p text folder left o hs taken ds) ≡ go m b → Rest b.open_files b.handed ms → Rest (open_file p text folder left ∷ o) hs (m ∷ ms)
  inner-step p text folder (Err f) o hs taken ds m b ms e h = absurd (cc)
  inner-step p text folder (Ok []) o hs taken ds m b ms e h =
      let P : Place → Type 0 = λ x. Rest x.open_files x.handed ms in
      inr (record { xs = []; inner = []; outer = ms; left_is = refl; contents = no_items p text folder; splits = ap (λ x. x ∷ ms) (sym (same-mark refl e)); rest = subst P (sym (same-place refl e)) h })
  inner-step p text folder (Ok (declaration x ∷ xs)) o hs taken ds m b ms e h =
      let P : Place → Type 0 = λ y. Rest y.open_files y.handed ms in
      let Q : Mark → Type 0 = λ y. Inner p text folder (declaration x ∷ xs) o hs (y ∷ ms) in
      subst Q (same-mark refl e) (declared-step p text folder xs o hs x ms (subst P (sym (same-place refl e)) h))
  inner-step p text folder (Ok (use_of u ∷ xs)) o hs taken ds m b ms e h =
      inner-group p text folder xs o hs taken ds u (m ∷ ms) (group-of (place (open_file p text folder (Ok xs) ∷ o) hs taken ds) (join folder (path_of u)) folder m b ms e h)

  step-rest : (o : List OpenFile) (hs taken : List Path) (ds : List Declared) (m : Mark) (b : Place) (ms : List Mark) → next w (place o hs taken ds) ≡ go m b → Rest b.open_files b.handed ms → Rest o hs (m ∷ ms)
  step-rest [] [] taken ds m b ms e h = absurd (cc)
  step-rest [] (p ∷ ps) taken ds m b ms e h = outer-step (file_name p) p ps taken ds m b ms refl e h
  step-rest (f ∷ o) hs taken ds m b ms e h = inner-step f.path f.text f.folder f.left o hs taken ds m b ms e h

  none-rest : (o : List OpenFile) (hs : List Path) → Rest o hs []
  none-rest [] hs = stops_there hs
  none-rest (f ∷ o) hs = inl (inl refl)

  rest-of : {a b : Place} {ms : List Mark} → Marks w a ms b → Rest a.open_files a.handed ms
  rest-of (none a) = none-rest a.open_files a.handed
  rest-of (more a m b ms c k r) = step-rest a.open_files a.handed a.taken a.declared m b ms k (rest-of r)

  pub front-groups : (hs : List Path) (ms : List Mark) → IsFront w hs ms → IsGroupedFront w hs ms
  front-groups hs ms h = record { groups = rest-of h.1; once = once-of w h.1 }

  -- the other way: marks of this form are a front
  abbrev Led : Place → List Mark → Type 0
  Led a ms = (b : Place) × Marks w a ms b

  mutual
    contents-led : (p : Path) (text : List ℕ) (folder : Path) (xs : List TextItem) (ms : List Mark) → ContentsFront w p text folder xs ms
        → (o : List OpenFile) (hs taken : List Path) (ds : List Declared) → StartsOnce taken ms → Led (place (open_file p text folder (Ok xs) ∷ o) hs taken ds) ms
    contents-led _ _ _ _ _ (stops p text folder xs) o hs taken ds h = (_, none _)
    contents-led _ _ _ _ _ (declares p text folder x xs ms r) o hs taken ds h =
        let k = contents-led p text folder xs ms r o hs taken (ds ++ declared_in p text x ∷ []) h in
        (k.0, more _ (decl (declared_in p text x)) _ _ _ refl k.1)
    contents-led _ _ _ _ _ (uses p text folder u xs group ms g r) o hs taken ds h =
        let k = reached-gone w (join folder (path_of u)) folder group g (place (open_file p text folder (Ok (use_of u ∷ xs)) ∷ o) hs taken ds) (open_file p text folder (Ok xs) ∷ o) hs taken ds ms refl h in
        let l = contents-led p text folder xs ms r o hs k.taken k.declared k.once in
        (l.0, marks-append w k.marks l.1)
    contents-led _ _ _ _ _ (stops_inside p text folder u xs group g) o hs taken ds h =
        open-led (join folder (path_of u)) folder group g (place (open_file p text folder (Ok (use_of u ∷ xs)) ∷ o) hs taken ds) (open_file p text folder (Ok xs) ∷ o) hs taken ds refl h

    open-led : (j d : Path) (ms : List Mark) → OpenGroup w j d ms → (a : Place) (o : List OpenFile) (hs taken : List Path) (ds : List Declared)
        → wish a ≡ reach (place o hs taken ds) j d → StartsOnce taken ms → Led a ms
    open-led _ _ _ (begun j d text f) a o hs taken ds e h = (_, more a _ _ [] _ (start-any w a o hs taken ds j d text e f h.0 h.1) (none _))
    open-led _ _ _ (read j d text xs ms f g r) a o hs taken ds e h =
        let k = contents-led (w.canonical j) text (folder_of (w.canonical j) d) xs ms r o hs (taken ++ w.canonical j ∷ []) ds h.2 in
        (k.0, more a _ _ _ _ (start-next w a o hs taken ds j d text xs e f g h.0 h.1) k.1)

  handed-led : (hs : List Path) (ms : List Mark) → HandedFront w hs ms → (taken : List Path) (ds : List Declared) → StartsOnce taken ms → Led (place [] hs taken ds) ms
  handed-led _ _ (stops_there hs) taken ds h = (_, none _)
  handed-led _ _ (hands p n ps group ms q g r) taken ds h =
      let k = reached-gone w (join (all_but_last p) (n ∷ [])) (all_but_last p) group g (place [] (p ∷ ps) taken ds) [] ps taken ds ms (ap (λ x. handed_wish x p (place [] ps taken ds)) q) h in
      let l = handed-led ps ms r k.taken k.declared k.once in
      (l.0, marks-append w k.marks l.1)
  handed-led _ _ (stops_in_it p n ps ms q g) taken ds h =
      open-led (join (all_but_last p) (n ∷ [])) (all_but_last p) ms g (place [] (p ∷ ps) taken ds) [] ps taken ds (ap (λ x. handed_wish x p (place [] ps taken ds)) q) h

  pub groups-front : (hs : List Path) (ms : List Mark) → IsGroupedFront w hs ms → IsFront w hs ms
  groups-front hs ms g = handed-led hs ms g.groups [] [] g.once
