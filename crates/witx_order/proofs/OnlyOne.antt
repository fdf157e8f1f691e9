-- There is at most one walk, and at most one verdict.
use Rattle.std.proofs.Common.{◌≡◌, List, ◌∷◌, refl, sym, ap, ◌∙◌, subst}
use Rattle.witx_base.specs.Paths.{Path}
use Rattle.witx_order.specs.Items.{Declared}
use Rattle.witx_order.specs.Walks.{World, Mark, Place, Next, go, over, next, Marks, none, more, IsWalk}
use Rattle.witx_order.specs.Verdicts.{Verdict, Turn, on, ends, turn, Leads, here, along, IsVerdict}

module _ {F : Type 0} where
  same-place : {m n : Mark} {a b : Place} {x : Next F} → x ≡ go m a → x ≡ go n b → a ≡ b
  same-place p q = cc

  same-mark : {m n : Mark} {a b : Place} {x : Next F} → x ≡ go m a → x ≡ go n b → m ≡ n
  same-mark p q = cc

  same-turn : {m n : Mark} {a b : Place} {t : Turn F} → t ≡ on m a → t ≡ on n b → a ≡ b
  same-turn p q = cc

  same-end : {v u : Verdict F} {t : Turn F} → t ≡ ends v → t ≡ ends u → v ≡ u
  same-end p q = cc

  no-mark : {m : Mark} {a : Place} {n : Next F} → n ≡ over → n ≡ go m a → ⊥
  no-mark p q = cc

  no-turn : {m : Mark} {a : Place} {v : Verdict F} {t : Turn F} → t ≡ ends v → t ≡ on m a → ⊥
  no-turn p q = cc

module _ {F : Type 0} (w : World F) where
  -- two ways from one place to where there is no next mark are the same
  only-marks : {a b c : Place} {ms ns : List Mark} → Marks w a ms b → Marks w a ns c → next w b ≡ over → next w c ≡ over → (ms ≡ ns) × (b ≡ c)
  only-marks (none _) (none _) e f = (refl, refl)
  only-marks (none _) (more _ m a' ns c k r) e f = absurd (no-mark e k)
  only-marks (more _ m a' ms b k r) (none _) e f = absurd (no-mark f k)
  only-marks (more _ m a' ms b k r) (more _ n a'' ns c l s) e f =
      let P : Place → Type 0 = λ z. Marks w z ns c in
      let h = only-marks r (subst P (sym (same-place k l)) s) e f in
      (ap (λ z. z ∷ ms) (same-mark k l) ∙ ap (λ z. n ∷ z) h.0, h.1)

  -- the same marks lead to one place
  pub one-last : {a b c : Place} {ms : List Mark} → Marks w a ms b → Marks w a ms c → b ≡ c
  one-last (none _) (none _) = refl
  one-last (more _ m a' ms b k r) (more _ n a'' ns c l s) =
      let P : Place → Type 0 = λ z. Marks w z ms c in
      one-last r (subst P (sym (same-place k l)) s)

  -- there is at most one walk
  pub one-walk : (handed : List Path) (ms ns : List Mark) (ds es : List Declared) → IsWalk w handed ms ds → IsWalk w handed ns es → (ms ≡ ns) × (ds ≡ es)
  one-walk handed ms ns ds es a b =
      let h = only-marks a.leads b.leads a.all b.all in
      (h.0, sym a.order ∙ (ap (λ z. z.declared) h.1 ∙ b.order))

  only-way : {a b c : Place} {v u : Verdict F} → Leads w a b → Leads w a c → turn w b ≡ ends v → turn w c ≡ ends u → v ≡ u
  only-way (here _) (here _) e f = same-end e f
  only-way (here _) (along _ m a' c k r) e f = absurd (no-turn e k)
  only-way (along _ m a' b k r) (here _) e f = absurd (no-turn f k)
  only-way (along _ m a' b k r) (along _ n a'' c l s) e f =
      let P : Place → Type 0 = λ z. Leads w z c in
      only-way r (subst P (sym (same-turn k l)) s) e f

  -- there is at most one verdict
  pub one-verdict : (handed : List Path) (v u : Verdict F) → IsVerdict w handed v → IsVerdict w handed u → v ≡ u
  one-verdict handed v u a b = only-way a.way b.way a.end_is b.end_is
