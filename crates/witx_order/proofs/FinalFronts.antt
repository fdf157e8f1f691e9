-- There is exactly one final front, and its verdict is the verdict.
use Rattle.std.proofs.Common.{◌≡◌, ℕ, List, [], ◌∷◌, ◌++◌, Bool, true, false, refl, sym, ap, ◌∙◌, subst, length, Option, Some, None, cond, nat_lt, append_assoc, append-nil}
use Rattle.witx_base.specs.Paths.{Path}
use Rattle.witx_order.specs.Items.{Declared}
use Rattle.witx_order.specs.Walks.{World, Mark, start, decl, skip, end, Place, Wish, wish, reach, declare, close, unread, nameless, done, Next, go, stuck, over, next, met, started, is_taken, beginning, Marks, none, more, IsWalk, WalkRefusal, faulty}
use Rattle.witx_order.specs.Verdicts.{Verdict, fine, refused, Turn, on, ends, turn, turned, passed, checked, Leads, here, along, IsVerdict}
use Rattle.witx_order.specs.Fronts.{declarations, AreSound, Comes, IsFinal, at_end, at_fault}
use Rattle.witx_order.proofs.Leaving.{Leaves, wish-leaves}

abbrev GoKeeps : {F : Type 0} → List Declared → Next F → Type 0
GoKeeps d (go m b) = b.declared ≡ d ++ declarations (m ∷ [])
GoKeeps d (stuck r) = Unit {0}
GoKeeps d over = Unit {0}

cond-keeps : {F : Type 0} (d : List Declared) (b : Bool) (x y : Next F) → GoKeeps d x → GoKeeps d y → GoKeeps d (cond b x y)
cond-keeps d true x y h k = h
cond-keeps d false x y h k = k

to-nil : (x d : List Declared) → x ≡ d → x ≡ d ++ []
to-nil x d e = e ∙ sym (append-nil d)

module _ {F : Type 0} where
  same-go : {m n : Mark} {a b : Place} {x : Next F} → x ≡ go m a → x ≡ go n b → (m ≡ n) × (a ≡ b)
  same-go p q = (cc, cc)

  same-on : {m n : Mark} {a b : Place} {t : Turn F} → t ≡ on m a → t ≡ on n b → (m ≡ n) × (a ≡ b)
  same-on p q = (cc, cc)

  as-go : {m n : Mark} {a b : Place} {t : Turn F} {x : Next F} → t ≡ on m a → t ≡ on n b → x ≡ go m a → x ≡ go n b
  as-go {m} {n} {a} {b} p q e = let h = same-on p q in e ∙ (ap (λ y. go y a) h.0 ∙ ap (λ y. go n y) h.1)

  same-end : {v u : Verdict F} {t : Turn F} → t ≡ ends v → t ≡ ends u → v ≡ u
  same-end p q = cc

  no-turn : {m : Mark} {a : Place} {v : Verdict F} {t : Turn F} → t ≡ ends v → t ≡ on m a → ⊥
  no-turn p q = cc

  fine-same : {a b : List Declared} {v : Verdict F} → v ≡ fine a → v ≡ fine b → a ≡ b
  fine-same p q = cc

  not-fine : {r : WalkRefusal F} {a : List Declared} {v : Verdict F} → v ≡ refused r → v ≡ fine a → ⊥
  not-fine p q = cc

module _ {F : Type 0} (w : World F) where
  started-keeps : (pl : Place) (p x : Path) (o : Option (List ℕ)) (d : List Declared) → pl.declared ≡ d → GoKeeps d (started w pl p x o)
  started-keeps pl p x None d e = tt
  started-keeps pl p x (Some text) d e = to-nil pl.declared d e

  met-keeps : (x : Wish) (taken : List Path) (d : List Declared) → Leaves taken d x → GoKeeps d (met w x)
  met-keeps (reach pl j x) taken d e =
      cond-keeps d (is_taken pl.taken (w.canonical j)) _ _ (to-nil pl.declared d e.1)
      (cond-keeps d (nat_lt (length pl.taken) 1024) _ _ (started-keeps pl (w.canonical j) x (w.text_at (w.canonical j)) d e.1) tt)
  met-keeps (declare δ pl) taken d e = e.1
  met-keeps (close p pl) taken d e = to-nil pl.declared d e.1
  met-keeps (unread p f) taken d e = tt
  met-keeps (nameless p) taken d e = tt
  met-keeps done taken d e = tt

  next-keeps : (a : Place) (m : Mark) (b : Place) → next w a ≡ go m b → b.declared ≡ a.declared ++ declarations (m ∷ [])
  next-keeps a m b e =
      let P : Next F → Type 0 = GoKeeps a.declared in
      subst P e (met-keeps (wish a) a.taken a.declared (wish-leaves a))

  -- marks without a fault
  data Way : Place → List Mark → Place → Type 0 where
    stay : (a : Place) → Way a [] a
    pass : (a : Place) (m : Mark) (b : Place) (ms : List Mark) (c : Place) → turn w a ≡ on m b → Way b ms c → Way a (m ∷ ms) c

  way-of : {a b : Place} → Leads w a b → (ms : List Mark) × Way a ms b
  way-of (here a) = ([], stay a)
  way-of (along a m b c e r) = let h = way-of r in (m ∷ h.0, pass a m b h.0 c e h.1)

  leads-of : {a b : Place} {ms : List Mark} → Way a ms b → Leads w a b
  leads-of (stay a) = here a
  leads-of (pass a m b ms c e r) = along a m b c e (leads-of r)

  checked-on : (o : Option F) (n : Mark) (b : Place) (m : Mark) (c : Place) (x : Next F) → checked o n b ≡ on m c → x ≡ go n b → (o ≡ None) × (x ≡ go m c)
  checked-on None n b m c x e q = (refl, as-go refl e q)
  checked-on (Some f) n b m c x e q = absurd (no-turn refl e)

  pub turned-on : (n : Next F) (ds : List Declared) (m : Mark) (c : Place) → turned w ds n ≡ on m c → (n ≡ go m c) × AreSound w ds (declarations (m ∷ []))
  turned-on (go (decl δ) b) ds m c e =
      let h = checked-on (w.fault_of ds δ) (decl δ) b m c (go (decl δ) b) e refl in
      let P : Mark → Type 0 = λ x. AreSound w ds (declarations (x ∷ [])) in
      (h.1, subst P (same-go refl h.1).0 (h.0, tt))
  turned-on (go (start p d) b) ds m c e = let P : Mark → Type 0 = λ x. AreSound w ds (declarations (x ∷ [])) in (as-go refl e refl, subst P (same-on refl e).0 tt)
  turned-on (go (skip p) b) ds m c e = let P : Mark → Type 0 = λ x. AreSound w ds (declarations (x ∷ [])) in (as-go refl e refl, subst P (same-on refl e).0 tt)
  turned-on (go (end p) b) ds m c e = let P : Mark → Type 0 = λ x. AreSound w ds (declarations (x ∷ [])) in (as-go refl e refl, subst P (same-on refl e).0 tt)
  turned-on (stuck r) ds m c e = absurd (no-turn refl e)
  turned-on over ds m c e = absurd (no-turn refl e)

  passes : (ds : List Declared) (m : Mark) (c : Place) → AreSound w ds (declarations (m ∷ [])) → passed w ds m c ≡ on m c
  passes ds (decl δ) c s = ap (λ o. checked o (decl δ) c) s.0
  passes ds (start p d) c s = refl
  passes ds (skip p) c s = refl
  passes ds (end p) c s = refl

  sound-first : (ds : List Declared) (m : Mark) (ms : List Mark) → AreSound w ds (declarations (m ∷ ms)) → AreSound w ds (declarations (m ∷ [])) × AreSound w (ds ++ declarations (m ∷ [])) (declarations ms)
  sound-first ds (decl δ) ms s = ((s.0, tt), s.1)
  sound-first ds (start p d) ms s = (tt, rw append-nil s)
  sound-first ds (skip p) ms s = (tt, rw append-nil s)
  sound-first ds (end p) ms s = (tt, rw append-nil s)

  sound-more : (ds : List Declared) (m : Mark) (ms : List Mark) → AreSound w ds (declarations (m ∷ [])) → AreSound w (ds ++ declarations (m ∷ [])) (declarations ms) → AreSound w ds (declarations (m ∷ ms))
  sound-more ds (decl δ) ms s t = (s.0, t)
  sound-more ds (start p d) ms s t = rw append-nil at t
  sound-more ds (skip p) ms s t = rw append-nil at t
  sound-more ds (end p) ms s t = rw append-nil at t

  declared-more : (ds : List Declared) (m : Mark) (ms : List Mark) → (ds ++ declarations (m ∷ [])) ++ declarations ms ≡ ds ++ declarations (m ∷ ms)
  declared-more ds (decl δ) ms = append_assoc ds (δ ∷ []) (declarations ms)
  declared-more ds (start p d) ms = rw append-nil refl
  declared-more ds (skip p) ms = rw append-nil refl
  declared-more ds (end p) ms = rw append-nil refl

  record Sound (a : Place) (ms : List Mark) (b : Place) : Type 0 where
    leads : Marks w a ms b
    sound : AreSound w a.declared (declarations ms)
    declared : b.declared ≡ a.declared ++ declarations ms

  sound-of : {a b : Place} {ms : List Mark} → Way a ms b → Sound a ms b
  sound-of (stay a) = record { leads = none a; sound = tt; declared = sym (append-nil a.declared) }
  sound-of (pass a m b ms c e r) =
      let t = turned-on (next w a) a.declared m b e in
      let h = sound-of r in
      let k = next-keeps a m b t.0 in
      let P : List Declared → Type 0 = λ ds. AreSound w ds (declarations ms) in
      record {
        leads = more a m b ms c t.0 h.leads;
        sound = sound-more a.declared m ms t.1 (subst P k h.sound);
        declared = h.declared ∙ (ap (λ ds. ds ++ declarations ms) k ∙ declared-more a.declared m ms);
      }

  way-from : {a b : Place} {ms : List Mark} → Marks w a ms b → AreSound w a.declared (declarations ms) → Way a ms b
  way-from (none a) s = stay a
  way-from (more a m b ms c e r) s =
      let h = sound-first a.declared m ms s in
      let P : List Declared → Type 0 = λ ds. AreSound w ds (declarations ms) in
      pass a m b ms c (ap (turned w a.declared) e ∙ passes a.declared m b h.0) (way-from r (subst P (sym (next-keeps a m b e)) h.1))

  declared-from : {a b : Place} {ms : List Mark} → Marks w a ms b → b.declared ≡ a.declared ++ declarations ms
  declared-from (none a) = sym (append-nil a.declared)
  declared-from (more a m b ms c e r) = declared-from r ∙ (ap (λ ds. ds ++ declarations ms) (next-keeps a m b e) ∙ declared-more a.declared m ms)

  declared-of : {hs : List Path} {b : Place} {ms : List Mark} → Marks w (beginning hs) ms b → b.declared ≡ declarations ms
  declared-of r = declared-from r

  only-way : {a b c : Place} {ms ns : List Mark} {v u : Verdict F} → Way a ms b → Way a ns c → turn w b ≡ ends v → turn w c ≡ ends u → (ms ≡ ns) × (b ≡ c)
  only-way (stay _) (stay _) e f = (refl, refl)
  only-way (stay _) (pass _ m b ns c k r) e f = absurd (no-turn e k)
  only-way (pass _ m b ms c k r) (stay _) e f = absurd (no-turn f k)
  only-way (pass _ m b ms _ k r) (pass _ n b' ns c l s) e f =
      let q = same-on k l in
      let P : Place → Type 0 = λ z. Way z ns c in
      let h = only-way r (subst P (sym q.1) s) e f in
      (ap (λ z. z ∷ ms) q.0 ∙ ap (λ z. n ∷ z) h.0, h.1)

  pub snoc : {a b c : Place} {ms : List Mark} {m : Mark} → Marks w a ms b → next w b ≡ go m c → Marks w a (ms ++ m ∷ []) c
  snoc (none a) e = more a _ _ [] _ e (none _)
  snoc (more a m b ms c k r) e = more a m b _ _ k (snoc r e)

  unsnoc-one : {a b : Place} {m : Mark} → Marks w a (m ∷ []) b → (c : Place) × (Marks w a [] c × (next w c ≡ go m b))
  unsnoc-one (more a m c _ b e (none _)) = (a, (none a, e))

  unsnoc-more : {a b : Place} {m : Mark} (x : Mark) (xs : List Mark) → Marks w a (x ∷ (xs ++ m ∷ [])) b
      → ((a' : Place) → Marks w a' (xs ++ m ∷ []) b → (c : Place) × (Marks w a' xs c × (next w c ≡ go m b)))
      → (c : Place) × (Marks w a (x ∷ xs) c × (next w c ≡ go m b))
  unsnoc-more x xs (more a _ a' _ b e r) h = let k = h a' r in (k.0, (more a x a' xs k.0 e k.1.0, k.1.1))

  pub unsnoc : (ms : List Mark) {a b : Place} {m : Mark} → Marks w a (ms ++ m ∷ []) b → (c : Place) × (Marks w a ms c × (next w c ≡ go m b))
  unsnoc [] {a} {b} {m} r = unsnoc-one r
  unsnoc (x ∷ xs) r = unsnoc-more x xs r (λ z q. unsnoc xs q)

  tail : Next F → List Mark
  tail (go m b) = m ∷ []
  tail (stuck r) = []
  tail over = []

  -- a final front by its marks without a fault
  record Ending (handed : List Path) (ms : List Mark) (v : Verdict F) : Type 0 where
    way : List Mark
    last : Place
    passes_all : Way (beginning handed) way last
    end_is : turn w last ≡ ends v
    marks_are : ms ≡ way ++ tail (next w last)

  stuck-turn : (n : Next F) (ds es : List Declared) (v : Verdict F) → ds ≡ es → Comes n es v → (turned w ds n ≡ ends v) × (tail n ≡ [])
  unfolding tail
  stuck-turn (go m b) ds es v e h = absurd h
  stuck-turn (stuck r) ds es v e h = (ap ends (sym h), refl)
  stuck-turn over ds es v e h = (ap (λ x. ends (fine x)) e ∙ ap ends (sym h), refl)

  ending-of : (handed : List Path) (ms : List Mark) (v : Verdict F) → IsFinal w handed ms v → Ending handed ms v
  unfolding tail
  ending-of handed ms v (at_end s) =
      let r = way-from s.leads s.sound in
      let h = stuck-turn (next w s.last) s.last.declared (declarations ms) v (sound-of r).declared s.verdict in
      record { way = ms; last = s.last; passes_all = r; end_is = h.0; marks_are = sym (append-nil ms) ∙ ap (λ x. ms ++ x) (sym h.1) }
  ending-of handed ms v (at_fault f) =
      let P : List Mark → Type 0 = λ x. Marks w (beginning handed) x f.last in
      let k = unsnoc f.before (subst P f.ends_so f.leads) in
      let r = way-from k.1.0 f.sound in
      record {
        way = f.before;
        last = k.0;
        passes_all = r;
        end_is = ap (turned w k.0.declared) k.1.1 ∙ (ap (λ ds. checked (w.fault_of ds f.δ) (decl f.δ) f.last) (sound-of r).declared ∙ (ap (λ o. checked o (decl f.δ) f.last) f.fails ∙ ap ends (sym f.verdict)));
        marks_are = f.ends_so ∙ ap (λ n. f.before ++ tail n) (sym k.1.1);
      }

  -- there is at most one final front
  pub one-final : (handed : List Path) (ms ns : List Mark) (v u : Verdict F) → IsFinal w handed ms v → IsFinal w handed ns u → (ms ≡ ns) × (v ≡ u)
  one-final handed ms ns v u a b =
      let x = ending-of handed ms v a in
      let y = ending-of handed ns u b in
      let h = only-way x.passes_all y.passes_all x.end_is y.end_is in (
        x.marks_are ∙ (ap (λ z. z ++ tail (next w x.last)) h.0 ∙ (ap (λ z. y.way ++ tail (next w z)) h.1 ∙ sym y.marks_are)),
        same-end x.end_is (ap (turn w) h.1 ∙ y.end_is),
      )

  -- its verdict is the verdict
  pub final-verdict : (handed : List Path) (ms : List Mark) (v : Verdict F) → IsFinal w handed ms v → IsVerdict w handed v
  final-verdict handed ms v a = let x = ending-of handed ms v a in record { last = x.last; way = leads-of x.passes_all; end_is = x.end_is }

  checked-ends : (o : Option F) (m : Mark) (b : Place) (v : Verdict F) → checked o m b ≡ ends v → (f : F) × ((o ≡ Some f) × (v ≡ refused (faulty f)))
  checked-ends None m b v e = absurd (no-turn e refl)
  checked-ends (Some f) m b v e = (f, (refl, sym (same-end refl e)))

  final-at : (handed : List Path) (ms : List Mark) (last : Place) (v : Verdict F) (n : Next F) → Sound (beginning handed) ms last → next w last ≡ n → turned w last.declared n ≡ ends v
      → (ns : List Mark) × IsFinal w handed ns v
  final-at handed ms last v (stuck r) s q e =
      let P : Next F → Type 0 = λ x. Comes x (declarations ms) v in
      (ms, at_end (record { last = last; leads = s.leads; sound = s.sound; verdict = subst P (sym q) (sym (same-end refl e)) }))
  final-at handed ms last v over s q e =
      let P : Next F → Type 0 = λ x. Comes x (declarations ms) v in
      (ms, at_end (record { last = last; leads = s.leads; sound = s.sound; verdict = subst P (sym q) (sym (same-end refl e) ∙ ap fine s.declared) }))
  final-at handed ms last v (go (decl δ) b) s q e =
      let h = checked-ends (w.fault_of last.declared δ) (decl δ) b v e in (
        ms ++ decl δ ∷ [],
        at_fault (record {
          before = ms;
          δ = δ;
          fault = h.0;
          last = b;
          ends_so = refl;
          leads = snoc s.leads q;
          sound = s.sound;
          fails = ap (λ ds. w.fault_of ds δ) (sym s.declared) ∙ h.1.0;
          verdict = h.1.1;
        }),
      )
  final-at handed ms last v (go (start p d) b) s q e = absurd (no-turn e refl)
  final-at handed ms last v (go (skip p) b) s q e = absurd (no-turn e refl)
  final-at handed ms last v (go (end p) b) s q e = absurd (no-turn e refl)

  -- and there is a final front of each verdict
  pub a-final : (handed : List Path) (v : Verdict F) → IsVerdict w handed v → (ms : List Mark) × IsFinal w handed ms v
  a-final handed v h =
      let x = way-of h.way in
      final-at handed x.0 h.last v (next w h.last) (sound-of x.1) refl h.end_is

  walk-at : (handed : List Path) (ms : List Mark) (last : Place) (ds : List Declared) (n : Next F) → Sound (beginning handed) ms last → next w last ≡ n → turned w last.declared n ≡ ends (fine ds) → (next w last ≡ over) × (last.declared ≡ ds)
  walk-at handed ms last ds over s q e = (q, fine-same refl (same-end refl e))
  walk-at handed ms last ds (stuck r) s q e = absurd (not-fine refl (same-end refl e))
  walk-at handed ms last ds (go (decl δ) b) s q e = absurd (not-fine refl (sym (checked-ends (w.fault_of last.declared δ) (decl δ) b (fine ds) e).1.1))
  walk-at handed ms last ds (go (start p d) b) s q e = absurd (no-turn e refl)
  walk-at handed ms last ds (go (skip p) b) s q e = absurd (no-turn e refl)
  walk-at handed ms last ds (go (end p) b) s q e = absurd (no-turn e refl)

  -- the verdict without a refusal comes with the walk, none of whose declarations has a fault
  pub fine-walk : (handed : List Path) (ds : List Declared) → IsVerdict w handed (fine ds) → (ms : List Mark) × (IsWalk w handed ms ds × AreSound w [] ds)
  fine-walk handed ds h =
      let x = way-of h.way in
      let s = sound-of x.1 in
      let k = walk-at handed x.0 h.last ds (next w h.last) s refl h.end_is in
      (x.0, (record { last = h.last; leads = s.leads; all = k.0; order = k.1 }, let P : List Declared → Type 0 = λ y. AreSound w [] y in subst P (sym s.declared ∙ k.1) s.sound))

  -- declarations that the handed paths mean are the verdict
  pub means-fine : (handed : List Path) (ds : List Declared) (ms : List Mark) → IsWalk w handed ms ds → AreSound w [] ds → IsVerdict w handed (fine ds)
  means-fine handed ds ms k s =
      let d : k.last.declared ≡ declarations ms = declared-of k.leads in
      let P : List Declared → Type 0 = λ y. AreSound w [] y in
      record { last = k.last; way = leads-of (way-from k.leads (subst P (sym k.order ∙ d) s)); end_is = ap (turned w k.last.declared) k.all ∙ ap (λ y. ends (fine y)) k.order }
