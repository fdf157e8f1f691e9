-- Steps along the reading order: what each wish leads to, or where it ends.
use Rattle.std.proofs.Common.{◌≡◌, ℕ, ◌<◌, ◌≤◌, List, [], ◌∷◌, ◌++◌, true, false, refl, sym, ap, ◌∙◌, length, cond, Some, None, Result, Ok, Err, arith, nat_lt}
use Rattle.std.proofs.lemmas.Bool.{lt-ltb}
use Rattle.std.proofs.lemmas.Bool.Decides.{nat_tests}
use Rattle.witx_base.specs.Paths.{Path}
use Rattle.witx_syntax_tree.specs.Trees.{NotedItem}
use Rattle.witx_order.specs.Items.{TextItem, declaration, Declared, SyntaxFault}
use Rattle.witx_order.specs.Walks.{World, Mark, start, decl, skip, end, OpenFile, open_file, declared_in, Place, place, reach, wish, met, reached, started, go, stuck, is_taken, folder_of, too_many, missing, unreadable, faulty}
use Rattle.witx_order.specs.Verdicts.{Verdict, refused, on, ends, turn, turned, checked, Leads, here, along, Ends}

not_lt : (m n : ℕ) → n ≤ m → nat_lt m n ≡ false
not_lt m n l = grind (arith, nat_tests)

module _ {F : Type 0} (w : World F) where
  pub leads-trans : {a b c : Place} → Leads w a b → Leads w b c → Leads w a c
  leads-trans (here a) g = g
  leads-trans (along a m a' b e f) g = along a m a' _ e (leads-trans f g)

  pub one : (a : Place) (m : Mark) (b : Place) → turn w a ≡ on m b → Leads w a b
  one a m b e = along a m b b e (here b)

  pub ends-after : {a b : Place} {v : Verdict F} → Leads w a b → Ends w b v → Ends w a v
  ends-after f e = record { last = e.last; way = leads-trans f e.way; end_is = e.end_is }

  pub stopped : (a : Place) (v : Verdict F) → turn w a ≡ ends v → Ends w a v
  stopped a v e = record { last = a; way = here a; end_is = e }

  module _ (pl : Place) (outer : List OpenFile) (handed taken : List Path) (ds : List Declared) (j d p : Path)
      (e : wish pl ≡ reach (place outer handed taken ds) j d) (s : p ≡ w.canonical j) where
    reach-turn : turn w pl ≡ turned w pl.declared (reached w (place outer handed taken ds) p d)
    reach-turn = ap (λ x. turned w pl.declared (met w x)) e ∙ ap (λ x. turned w pl.declared (reached w (place outer handed taken ds) x d)) (sym s)

    pub skipped : is_taken taken p ≡ true → Leads w pl (place outer handed taken ds)
    skipped t = one pl (skip p) (place outer handed taken ds)
        (reach-turn ∙ ap (λ b. turned w pl.declared (cond b (go (skip p) (place outer handed taken ds)) (cond (nat_lt (length taken) 1024) (started w (place outer handed taken ds) p d (w.text_at p)) (stuck (too_many p))))) t)

    fresh-turn : is_taken taken p ≡ false → turn w pl ≡ turned w pl.declared (cond (nat_lt (length taken) 1024) (started w (place outer handed taken ds) p d (w.text_at p)) (stuck (too_many p)))
    fresh-turn t = reach-turn ∙ ap (λ b. turned w pl.declared (cond b (go (skip p) (place outer handed taken ds)) (cond (nat_lt (length taken) 1024) (started w (place outer handed taken ds) p d (w.text_at p)) (stuck (too_many p))))) t

    pub too_many-ends : is_taken taken p ≡ false → 1024 ≤ length taken → Ends w pl (refused (too_many p))
    too_many-ends t l = let q : nat_lt (length taken) 1024 ≡ false = not_lt (length taken) 1024 l in
        stopped pl _ (fresh-turn t ∙ ap (λ b. turned w pl.declared (cond b (started w (place outer handed taken ds) p d (w.text_at p)) (stuck (too_many p)))) q)

    room-turn : is_taken taken p ≡ false → length taken < 1024 → turn w pl ≡ turned w pl.declared (started w (place outer handed taken ds) p d (w.text_at p))
    room-turn t l = let q : nat_lt (length taken) 1024 ≡ true = lt-ltb (length taken) 1024 l in
        fresh-turn t ∙ ap (λ b. turned w pl.declared (cond b (started w (place outer handed taken ds) p d (w.text_at p)) (stuck (too_many p)))) q

    pub missing-ends : is_taken taken p ≡ false → length taken < 1024 → w.text_at p ≡ None → Ends w pl (refused (missing p))
    missing-ends t l n = stopped pl _ (room-turn t l ∙ ap (λ x. turned w pl.declared (started w (place outer handed taken ds) p d x)) n)

    pub starts : (text : List ℕ) → is_taken taken p ≡ false → length taken < 1024 → w.text_at p ≡ Some text
        → Leads w pl (place (open_file p text (folder_of p d) (w.reading text) ∷ outer) handed (taken ++ p ∷ []) ds)
    starts text t l n = one pl (start p d) _ (room-turn t l ∙ ap (λ x. turned w pl.declared (started w (place outer handed taken ds) p d x)) n)

  module _ (p : Path) (text : List ℕ) (folder : Path) (outer : List OpenFile) (handed taken : List Path) (ds : List Declared) where
    pub unread-ends : (left : Result (List TextItem) SyntaxFault) (f : SyntaxFault) → left ≡ Err f
        → Ends w (place (open_file p text folder left ∷ outer) handed taken ds) (refused (unreadable p f))
    unread-ends left f e = stopped _ _ (ap (λ x. turn w (place (open_file p text folder x ∷ outer) handed taken ds)) e)

    pub closes : Leads w (place (open_file p text folder (Ok []) ∷ outer) handed taken ds) (place outer handed taken ds)
    closes = one _ (end p) _ refl

    pub declares : (x : NotedItem) (xs : List TextItem) → w.fault_of ds (declared_in p text x) ≡ None
        → Leads w (place (open_file p text folder (Ok (declaration x ∷ xs)) ∷ outer) handed taken ds) (place (open_file p text folder (Ok xs) ∷ outer) handed taken (ds ++ declared_in p text x ∷ []))
    declares x xs e = one _ (decl (declared_in p text x)) _
        (ap (λ o. checked o (decl (declared_in p text x)) (place (open_file p text folder (Ok xs) ∷ outer) handed taken (ds ++ declared_in p text x ∷ []))) e)

    pub faulty-ends : (x : NotedItem) (xs : List TextItem) (f : F) → w.fault_of ds (declared_in p text x) ≡ Some f
        → Ends w (place (open_file p text folder (Ok (declaration x ∷ xs)) ∷ outer) handed taken ds) (refused (faulty f))
    faulty-ends x xs f e = stopped _ _
        (ap (λ o. checked o (decl (declared_in p text x)) (place (open_file p text folder (Ok xs) ∷ outer) handed taken (ds ++ declared_in p text x ∷ []))) e)
