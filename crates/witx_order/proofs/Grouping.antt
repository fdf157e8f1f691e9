-- The walks step by step are exactly those by their groups.
use Rattle.std.proofs.Common.{◌≡◌, ℕ, ◌<◌, List, [], ◌∷◌, ◌++◌, Bool, true, false, refl, sym, ap, ◌∙◌, subst, length, Option, Some, None, Result, Ok, Err, cond, nat_lt, ◌⊎◌, inl, inr, append_assoc}
use Rattle.std.proofs.lemmas.Bool.{ltb-true, lt-ltb}
use Rattle.witx_base.specs.Paths.{Path, file_name, join, path_of, all_but_last}
use Rattle.witx_order.specs.Items.{TextItem, declaration, use_of, Declared, SyntaxFault}
use Rattle.witx_order.specs.Walks.{World, Mark, start, decl, skip, end, OpenFile, open_file, declared_in, Place, place, wish, reach, handed_wish, inner_wish, Next, go, stuck, over, next, met, reached, started, is_taken, folder_of, Marks, none, more, IsWalk, too_many}
use Rattle.witx_order.specs.Groups.{Contents, no_items, declared, used, Reached, skipped, opened, Handed, no_paths, handed, StartsOnce}

module _ {F : Type 0} where
  pub same-mark : {m n : Mark} {a b : Place} {x : Next F} → x ≡ go m a → x ≡ go n b → m ≡ n
  same-mark p q = cc

  pub same-place : {m n : Mark} {a b : Place} {x : Next F} → x ≡ go m a → x ≡ go n b → a ≡ b
  same-place p q = cc

abbrev pub reads : List TextItem → Result (List TextItem) SyntaxFault
reads xs = Ok xs

pub same-ok : {xs ys : List TextItem} → reads xs ≡ reads ys → xs ≡ ys
same-ok q = cc

module _ {F : Type 0} (w : World F) where
  abbrev pub afresh : Place → Path → Path → List ℕ → Place
  afresh pl p d text = place (open_file p text (folder_of p d) (w.reading text) ∷ pl.open_files) pl.handed (pl.taken ++ p ∷ []) pl.declared

  pub record Skips (pl : Place) (p : Path) (m : Mark) (b : Place) : Type 0 where
    pub known : is_taken pl.taken p ≡ true
    pub mark : m ≡ skip p
    pub at : b ≡ pl

  pub record Starts (pl : Place) (p d : Path) (m : Mark) (b : Place) : Type 0 where
    pub text : List ℕ
    pub new : is_taken pl.taken p ≡ false
    pub room : length pl.taken < 1024
    pub holds : w.text_at p ≡ Some text
    pub mark : m ≡ start p d
    pub at : b ≡ afresh pl p d text

  started-cases : (pl : Place) (p d : Path) (o : Option (List ℕ)) (m : Mark) (b : Place) → started w pl p d o ≡ go m b → (text : List ℕ) × ((o ≡ Some text) × ((m ≡ start p d) × (b ≡ afresh pl p d text)))
  started-cases pl p d None m b e = absurd (cc)
  started-cases pl p d (Some text) m b e = (text, (refl, (sym (same-mark refl e), sym (same-place refl e))))

  room-cases : (pl : Place) (p d : Path) (r : Bool) (m : Mark) (b : Place) → nat_lt (length pl.taken) 1024 ≡ r → is_taken pl.taken p ≡ false
      → cond r (started w pl p d (w.text_at p)) (stuck (too_many p)) ≡ go m b → Starts pl p d m b
  room-cases pl p d true m b q t e =
      let h = started-cases pl p d (w.text_at p) m b e in
      record { text = h.0; new = t; room = ltb-true (length pl.taken) 1024 q; holds = h.1.0; mark = h.1.1.0; at = h.1.1.1 }
  room-cases pl p d false m b q t e = absurd (cc)

  pub reach-cases : (pl : Place) (p d : Path) (t : Bool) (m : Mark) (b : Place) → is_taken pl.taken p ≡ t
      → cond t (go (skip p) pl) (cond (nat_lt (length pl.taken) 1024) (started w pl p d (w.text_at p)) (stuck (too_many p))) ≡ go m b → Skips pl p m b ⊎ Starts pl p d m b
  reach-cases pl p d true m b q e = inl (record { known = q; mark = sym (same-mark refl e); at = sym (same-place refl e) })
  reach-cases pl p d false m b q e = inr (room-cases pl p d (nat_lt (length pl.taken) 1024) m b refl q e)

  started-not : (pl : Place) (p d : Path) (o : Option (List ℕ)) → started w pl p d o ≡ over → ⊥
  started-not pl p d None e = cc
  started-not pl p d (Some text) e = cc

  reach-not : (pl : Place) (p d : Path) (t r : Bool) → cond t (go (skip p) pl) (cond r (started w pl p d (w.text_at p)) (stuck (too_many p))) ≡ over → ⊥
  reach-not pl p d true r e = cc
  reach-not pl p d false true e = started-not pl p d (w.text_at p) e
  reach-not pl p d false false e = cc

  -- the marks that are left close a file, and go on behind it
  pub record Closes (f : OpenFile) (ms : List Mark) (Outer : List Mark → Type 0) : Type 0 where
    pub xs : List TextItem
    pub inner : List Mark
    pub outer : List Mark
    pub left_is : f.left ≡ Ok xs
    pub contents : Contents w f.path f.text f.folder xs inner
    pub splits : ms ≡ inner ++ end f.path ∷ outer
    pub rest : Outer outer

  -- the marks that are left are the group of a path, and behind it those that a place leaves
  pub record Group (Rest : List OpenFile → List Path → List Mark → Type 0) (pl : Place) (j d : Path) (ms : List Mark) : Type 0 where
    pub group : List Mark
    pub behind : List Mark
    pub reaches : Reached w j d group
    pub splits : ms ≡ group ++ behind
    pub rest : Rest pl.open_files pl.handed behind

  abbrev Rest : List OpenFile → List Path → List Mark → Type 0
  Rest [] hs ms = Handed w hs ms
  Rest (f ∷ o) hs ms = Closes f ms (λ ns. Rest o hs ns)

  group-of : (pl : Place) (j d : Path) (m : Mark) (b : Place) (ms : List Mark) → reached w pl (w.canonical j) d ≡ go m b → Rest b.open_files b.handed ms → Group Rest pl j d (m ∷ ms)
  group-of pl j d m b ms e h =
      elim (reach-cases pl (w.canonical j) d (is_taken pl.taken (w.canonical j)) m b refl e) [
        | inl s ↦ (let P : Place → Type 0 = λ x. Rest x.open_files x.handed ms in
            record { group = skip (w.canonical j) ∷ []; behind = ms; reaches = skipped j d; splits = ap (λ x. x ∷ ms) s.mark; rest = subst P s.at h })
        | inr s ↦ (let P : Place → Type 0 = λ x. Rest x.open_files x.handed ms in
            let k = subst P s.at h in
            record {
              group = start (w.canonical j) d ∷ (k.inner ++ end (w.canonical j) ∷ []);
              behind = k.outer;
              reaches = opened j d s.text k.xs k.inner s.holds k.left_is k.contents;
              splits = ap (λ x. x ∷ ms) s.mark ∙ ap (λ x. start (w.canonical j) d ∷ x) (k.splits ∙ sym (append_assoc k.inner (end (w.canonical j) ∷ []) k.outer));
              rest = k.rest;
            })
      ]

  outer-step : (o : Option (List ℕ)) (p : Path) (ps taken : List Path) (ds : List Declared) (m : Mark) (b : Place) (ms : List Mark) → file_name p ≡ o
      → met w (handed_wish o p (place [] ps taken ds)) ≡ go m b → Rest b.open_files b.handed ms → Handed w (p ∷ ps) (m ∷ ms)
  outer-step None p ps taken ds m b ms q e h = absurd (cc)
  outer-step (Some n) p ps taken ds m b ms q e h =
      let g = group-of (place [] ps taken ds) (join (all_but_last p) (n ∷ [])) (all_but_last p) m b ms e h in
      let P : List Mark → Type 0 = λ x. Handed w (p ∷ ps) x in
      subst P (sym g.splits) (handed p n ps g.group g.behind q g.reaches g.rest)

  abbrev inner-goal : Path → List ℕ → Path → Result (List TextItem) SyntaxFault → List OpenFile → List Path → List Mark → Type 0
  inner-goal p text folder left o hs ms = Closes (open_file p text folder left) ms (λ ns. Rest o hs ns)

  inner-step : (p : Path) (text : List ℕ) (folder : Path) (left : Result (List TextItem) SyntaxFault) (o : List OpenFile) (hs taken : List Path) (ds : List Declared) (m : Mark) (b : Place) (ms : List Mark)
      → met w (inner_wish p text folder left o hs taken ds) ≡ go m b → Rest b.open_files b.handed ms → inner-goal p text folder left o hs (m ∷ ms)
  inner-step p text folder (Err f) o hs taken ds m b ms e h = absurd (cc)
  inner-step p text folder (Ok []) o hs taken ds m b ms e h =
      let P : Place → Type 0 = λ x. Rest x.open_files x.handed ms in
      record { xs = []; inner = []; outer = ms; left_is = refl; contents = no_items p text folder; splits = ap (λ x. x ∷ ms) (sym (same-mark refl e)); rest = subst P (sym (same-place refl e)) h }
  inner-step p text folder (Ok (declaration x ∷ xs)) o hs taken ds m b ms e h =
      let P : Place → Type 0 = λ x. Rest x.open_files x.handed ms in
      let k = subst P (sym (same-place refl e)) h in
      let Q : List TextItem → Type 0 = λ ys. Contents w p text folder ys k.inner in
      record {
        xs = declaration x ∷ xs;
        inner = decl (declared_in p text x) ∷ k.inner;
        outer = k.outer;
        left_is = refl;
        contents = declared p text folder x xs k.inner (subst Q (sym (same-ok k.left_is)) k.contents);
        splits = ap (λ y. y ∷ ms) (sym (same-mark refl e)) ∙ ap (λ y. decl (declared_in p text x) ∷ y) k.splits;
        rest = k.rest;
      }
  inner-step p text folder (Ok (use_of u ∷ xs)) o hs taken ds m b ms e h =
      let g = group-of (place (open_file p text folder (Ok xs) ∷ o) hs taken ds) (join folder (path_of u)) folder m b ms e h in
      let k = g.rest in
      let Q : List TextItem → Type 0 = λ ys. Contents w p text folder ys k.inner in
      record {
        xs = use_of u ∷ xs;
        inner = g.group ++ k.inner;
        outer = k.outer;
        left_is = refl;
        contents = used p text folder u xs g.group k.inner g.reaches (subst Q (sym (same-ok k.left_is)) k.contents);
        splits = g.splits ∙ (ap (λ x. g.group ++ x) k.splits ∙ sym (append_assoc g.group k.inner (end p ∷ k.outer)));
        rest = k.rest;
      }

  step-rest : (o : List OpenFile) (hs taken : List Path) (ds : List Declared) (m : Mark) (b : Place) (ms : List Mark) → next w (place o hs taken ds) ≡ go m b → Rest b.open_files b.handed ms → Rest o hs (m ∷ ms)
  step-rest [] [] taken ds m b ms e h = absurd (cc)
  step-rest [] (p ∷ ps) taken ds m b ms e h = outer-step (file_name p) p ps taken ds m b ms refl e h
  step-rest (f ∷ o) hs taken ds m b ms e h = inner-step f.path f.text f.folder f.left o hs taken ds m b ms e h

  outer-over : (o : Option (List ℕ)) (p : Path) (pl : Place) → met w (handed_wish o p pl) ≡ over → ⊥
  outer-over None p pl e = cc
  outer-over (Some n) p pl e = reach-not pl _ _ _ _ e

  inner-over : (p : Path) (text : List ℕ) (folder : Path) (left : Result (List TextItem) SyntaxFault) (o : List OpenFile) (hs taken : List Path) (ds : List Declared) → met w (inner_wish p text folder left o hs taken ds) ≡ over → ⊥
  inner-over p text folder (Err f) o hs taken ds e = cc
  inner-over p text folder (Ok []) o hs taken ds e = cc
  inner-over p text folder (Ok (declaration x ∷ xs)) o hs taken ds e = cc
  inner-over p text folder (Ok (use_of u ∷ xs)) o hs taken ds e = reach-not (place (open_file p text folder (Ok xs) ∷ o) hs taken ds) _ _ _ _ e

  over-rest : (o : List OpenFile) (hs taken : List Path) (ds : List Declared) → next w (place o hs taken ds) ≡ over → Rest o hs []
  over-rest [] [] taken ds e = no_paths
  over-rest [] (p ∷ ps) taken ds e = absurd (outer-over (file_name p) p _ e)
  over-rest (f ∷ o) hs taken ds e = absurd (inner-over f.path f.text f.folder f.left o hs taken ds e)

  rest-of : {a b : Place} {ms : List Mark} → Marks w a ms b → next w b ≡ over → Rest a.open_files a.handed ms
  rest-of (none a) e = over-rest a.open_files a.handed a.taken a.declared e
  rest-of (more a m b ms c k r) e = step-rest a.open_files a.handed a.taken a.declared m b ms k (rest-of r e)

  -- a walk is the groups of the handed paths, in order
  pub walk-groups : (hs : List Path) (ms : List Mark) (ds : List Declared) → IsWalk w hs ms ds → Handed w hs ms
  walk-groups hs ms ds h = rest-of h.leads h.all

  reach-once : (pl : Place) (p d : Path) (m : Mark) (b : Place) (ms : List Mark) → reached w pl p d ≡ go m b → StartsOnce b.taken ms → StartsOnce pl.taken (m ∷ ms)
  reach-once pl p d m b ms e h =
      let Q : Mark → Type 0 = λ x. StartsOnce pl.taken (x ∷ ms) in
      let P : Place → Type 0 = λ x. StartsOnce x.taken ms in
      elim (reach-cases pl p d (is_taken pl.taken p) m b refl e) [
        | inl s ↦ subst Q (sym s.mark) (s.known, subst P s.at h)
        | inr s ↦ subst Q (sym s.mark) (s.new, s.room, subst P s.at h)
      ]

  outer-once : (o : Option (List ℕ)) (p : Path) (ps taken : List Path) (ds : List Declared) (m : Mark) (b : Place) (ms : List Mark)
      → met w (handed_wish o p (place [] ps taken ds)) ≡ go m b → StartsOnce b.taken ms → StartsOnce taken (m ∷ ms)
  outer-once None p ps taken ds m b ms e h = absurd (cc)
  outer-once (Some n) p ps taken ds m b ms e h = reach-once (place [] ps taken ds) _ _ m b ms e h

  inner-once : (p : Path) (text : List ℕ) (folder : Path) (left : Result (List TextItem) SyntaxFault) (o : List OpenFile) (hs taken : List Path) (ds : List Declared) (m : Mark) (b : Place) (ms : List Mark)
      → met w (inner_wish p text folder left o hs taken ds) ≡ go m b → StartsOnce b.taken ms → StartsOnce taken (m ∷ ms)
  inner-once p text folder (Err f) o hs taken ds m b ms e h = absurd (cc)
  inner-once p text folder (Ok []) o hs taken ds m b ms e h =
      let Q : Mark → Type 0 = λ x. StartsOnce taken (x ∷ ms) in
      let P : Place → Type 0 = λ x. StartsOnce x.taken ms in
      subst Q (same-mark refl e) (subst P (sym (same-place refl e)) h)
  inner-once p text folder (Ok (declaration x ∷ xs)) o hs taken ds m b ms e h =
      let Q : Mark → Type 0 = λ x. StartsOnce taken (x ∷ ms) in
      let P : Place → Type 0 = λ x. StartsOnce x.taken ms in
      subst Q (same-mark refl e) (subst P (sym (same-place refl e)) h)
  inner-once p text folder (Ok (use_of u ∷ xs)) o hs taken ds m b ms e h = reach-once (place (open_file p text folder (Ok xs) ∷ o) hs taken ds) _ _ m b ms e h

  step-once : (o : List OpenFile) (hs taken : List Path) (ds : List Declared) (m : Mark) (b : Place) (ms : List Mark) → next w (place o hs taken ds) ≡ go m b → StartsOnce b.taken ms → StartsOnce taken (m ∷ ms)
  step-once [] [] taken ds m b ms e h = absurd (cc)
  step-once [] (p ∷ ps) taken ds m b ms e h = outer-once (file_name p) p ps taken ds m b ms e h
  step-once (f ∷ o) hs taken ds m b ms e h = inner-once f.path f.text f.folder f.left o hs taken ds m b ms e h

  pub once-of : {a b : Place} {ms : List Mark} → Marks w a ms b → StartsOnce a.taken ms
  once-of (none a) = tt
  once-of (more a m b ms c k r) = step-once a.open_files a.handed a.taken a.declared m b ms k (once-of r)

  pub walk-once : (hs : List Path) (ms : List Mark) (ds : List Declared) → IsWalk w hs ms ds → StartsOnce [] ms
  walk-once hs ms ds h = once-of h.leads

  -- the other way: marks of this form are a walk
  pub marks-append : {a b c : Place} {ms ns : List Mark} → Marks w a ms b → Marks w b ns c → Marks w a (ms ++ ns) c
  marks-append (none a) s = s
  marks-append (more a m b ms c k r) s = more a m b _ _ k (marks-append r s)

  pub record Gone (a : Place) (ms rest : List Mark) (o : List OpenFile) (hs : List Path) : Type 0 where
    pub taken : List Path
    pub declared : List Declared
    pub marks : Marks w a ms (place o hs taken declared)
    pub once : StartsOnce taken rest

  pub reach-next : (a : Place) (o : List OpenFile) (hs taken : List Path) (ds : List Declared) (j d : Path) → wish a ≡ reach (place o hs taken ds) j d → next w a ≡ reached w (place o hs taken ds) (w.canonical j) d
  reach-next a o hs taken ds j d e = ap (met w) e

  skip-gone : (a : Place) (o : List OpenFile) (hs taken : List Path) (ds : List Declared) (j d : Path) (rest : List Mark) → wish a ≡ reach (place o hs taken ds) j d
      → StartsOnce taken (skip (w.canonical j) ∷ rest) → Gone a (skip (w.canonical j) ∷ []) rest o hs
  skip-gone a o hs taken ds j d rest e h = record {
    taken = taken;
    declared = ds;
    marks = more a _ (place o hs taken ds) [] _ (reach-next a o hs taken ds j d e ∙ ap (λ t. cond t (go (skip (w.canonical j)) (place o hs taken ds)) (cond (nat_lt (length taken) 1024) (started w (place o hs taken ds) (w.canonical j) d (w.text_at (w.canonical j))) (stuck (too_many (w.canonical j))))) h.0) (none _);
    once = h.1;
  }

  pub start-any : (a : Place) (o : List OpenFile) (hs taken : List Path) (ds : List Declared) (j d : Path) (text : List ℕ) → wish a ≡ reach (place o hs taken ds) j d
      → w.text_at (w.canonical j) ≡ Some text → is_taken taken (w.canonical j) ≡ false → length taken < 1024
      → next w a ≡ go (start (w.canonical j) d) (afresh (place o hs taken ds) (w.canonical j) d text)
  start-any a o hs taken ds j d text e f t l =
      reach-next a o hs taken ds j d e
      ∙ (ap (λ x. cond x (go (skip (w.canonical j)) (place o hs taken ds)) (cond (nat_lt (length taken) 1024) (started w (place o hs taken ds) (w.canonical j) d (w.text_at (w.canonical j))) (stuck (too_many (w.canonical j))))) t
      ∙ (ap (λ x. cond x (started w (place o hs taken ds) (w.canonical j) d (w.text_at (w.canonical j))) (stuck (too_many (w.canonical j)))) (lt-ltb (length taken) 1024 l)
      ∙ ap (λ x. started w (place o hs taken ds) (w.canonical j) d x) f))

  pub start-next : (a : Place) (o : List OpenFile) (hs taken : List Path) (ds : List Declared) (j d : Path) (text : List ℕ) (xs : List TextItem) → wish a ≡ reach (place o hs taken ds) j d
      → w.text_at (w.canonical j) ≡ Some text → w.reading text ≡ Ok xs → is_taken taken (w.canonical j) ≡ false → length taken < 1024
      → next w a ≡ go (start (w.canonical j) d) (place (open_file (w.canonical j) text (folder_of (w.canonical j) d) (Ok xs) ∷ o) hs (taken ++ w.canonical j ∷ []) ds)
  start-next a o hs taken ds j d text xs e f g t l =
      start-any a o hs taken ds j d text e f t l
      ∙ ap (λ x. go (start (w.canonical j) d) (place (open_file (w.canonical j) text (folder_of (w.canonical j) d) x ∷ o) hs (taken ++ w.canonical j ∷ []) ds)) g

  group-gone : (a : Place) (o : List OpenFile) (hs taken : List Path) (ds : List Declared) (p : Path) (text : List ℕ) (d folder : Path) (xs : List TextItem) (ms rest : List Mark)
      → next w a ≡ go (start p d) (place (open_file p text folder (Ok xs) ∷ o) hs taken ds)
      → Gone (place (open_file p text folder (Ok xs) ∷ o) hs taken ds) ms (end p ∷ rest) (open_file p text folder (Ok []) ∷ o) hs
      → Gone a (start p d ∷ (ms ++ end p ∷ [])) rest o hs
  group-gone a o hs taken ds p text d folder xs ms rest e h = record {
    taken = h.taken;
    declared = h.declared;
    marks = more a _ _ _ _ e (marks-append h.marks (more _ (end p) (place o hs h.taken h.declared) [] _ refl (none _)));
    once = h.once;
  }

  mutual
    contents-gone : (p : Path) (text : List ℕ) (folder : Path) (xs : List TextItem) (ms : List Mark) → Contents w p text folder xs ms → (o : List OpenFile) (hs taken : List Path) (ds : List Declared) (rest : List Mark)
        → StartsOnce taken (ms ++ rest) → Gone (place (open_file p text folder (Ok xs) ∷ o) hs taken ds) ms rest (open_file p text folder (Ok []) ∷ o) hs
    contents-gone _ _ _ _ _ (no_items p text folder) o hs taken ds rest h = record { taken = taken; declared = ds; marks = none _; once = h }
    contents-gone _ _ _ _ _ (declared p text folder x xs ms r) o hs taken ds rest h =
        let k = contents-gone p text folder xs ms r o hs taken (ds ++ declared_in p text x ∷ []) rest h in
        record { taken = k.taken; declared = k.declared; marks = more _ (decl (declared_in p text x)) _ _ _ refl k.marks; once = k.once }
    contents-gone _ _ _ _ _ (used p text folder u xs group ms g r) o hs taken ds rest h =
        let P : List Mark → Type 0 = λ x. StartsOnce taken x in
        let k = reached-gone (join folder (path_of u)) folder group g (place (open_file p text folder (Ok (use_of u ∷ xs)) ∷ o) hs taken ds) (open_file p text folder (Ok xs) ∷ o) hs taken ds (ms ++ rest) refl (subst P (append_assoc group ms rest) h) in
        let l = contents-gone p text folder xs ms r o hs k.taken k.declared rest k.once in
        record { taken = l.taken; declared = l.declared; marks = marks-append k.marks l.marks; once = l.once }

    pub reached-gone : (j d : Path) (g : List Mark) → Reached w j d g → (a : Place) (o : List OpenFile) (hs taken : List Path) (ds : List Declared) (rest : List Mark)
        → wish a ≡ reach (place o hs taken ds) j d → StartsOnce taken (g ++ rest) → Gone a g rest o hs
    reached-gone _ _ _ (skipped j d) a o hs taken ds rest e h = skip-gone a o hs taken ds j d rest e h
    reached-gone _ _ _ (opened j d text xs ms f g r) a o hs taken ds rest e h =
        let P : List Mark → Type 0 = λ x. StartsOnce (taken ++ w.canonical j ∷ []) x in
        group-gone a o hs (taken ++ w.canonical j ∷ []) ds (w.canonical j) text d (folder_of (w.canonical j) d) xs ms rest
        (start-next a o hs taken ds j d text xs e f g h.0 h.1)
        (contents-gone (w.canonical j) text (folder_of (w.canonical j) d) xs ms r o hs (taken ++ w.canonical j ∷ []) ds (end (w.canonical j) ∷ rest)
        (subst P (append_assoc ms (end (w.canonical j) ∷ []) rest) h.2))

  handed-gone : (hs : List Path) (ms : List Mark) → Handed w hs ms → (taken : List Path) (ds : List Declared) → StartsOnce taken ms → Gone (place [] hs taken ds) ms [] [] []
  handed-gone _ _ no_paths taken ds h = record { taken = taken; declared = ds; marks = none _; once = h }
  handed-gone _ _ (handed p n ps group ms q g r) taken ds h =
      let k = reached-gone (join (all_but_last p) (n ∷ [])) (all_but_last p) group g (place [] (p ∷ ps) taken ds) [] ps taken ds ms (ap (λ x. handed_wish x p (place [] ps taken ds)) q) h in
      let l = handed-gone ps ms r k.taken k.declared k.once in
      record { taken = l.taken; declared = l.declared; marks = marks-append k.marks l.marks; once = l.once }

  pub groups-walk : (hs : List Path) (ms : List Mark) → Handed w hs ms → StartsOnce [] ms → (ds : List Declared) × IsWalk w hs ms ds
  groups-walk hs ms g h = let k = handed-gone hs ms g [] [] h in (k.declared, record { last = place [] [] k.taken k.declared; leads = k.marks; all = refl; order = refl })
