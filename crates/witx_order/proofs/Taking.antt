-- What a mark adds to the paths that have started, and how many there are where there are too many.
use Rattle.std.proofs.Common.{◌≡◌, ℕ, ◌≤◌, List, [], ◌∷◌, ◌++◌, Bool, true, false, refl, subst, length, Option, Some, None, cond, nat_lt, arith, inl, inr, ◌⊎◌}
use Rattle.std.proofs.lemmas.Bool.Decides.{nat_tests}
use Rattle.witx_base.specs.Paths.{Path}
use Rattle.witx_order.specs.Items.{Declared}
use Rattle.witx_order.specs.Walks.{World, skip, Place, Wish, wish, reach, declare, close, unread, nameless, done, Next, go, stuck, over, next, met, reached, started, is_taken, bad_path, too_many, missing, unreadable, faulty}
use Rattle.witx_order.proofs.Leaving.{Leaves, wish-leaves}

no-less : (m n : ℕ) → nat_lt m n ≡ false → n ≤ m
no-less m n e = grind (arith, nat_tests)

module _ {F : Type 0} (w : World F) where
  -- the same paths, or one more, which has a file
  abbrev pub Takes : List Path → List Path → Type 0
  Takes before now = (now ≡ before) ⊎ ((p : Path) × ((text : List ℕ) × ((now ≡ before ++ p ∷ []) × ((is_taken before p ≡ false) × (w.text_at p ≡ Some text)))))

  abbrev pub NextTakes : List Path → Next F → Type 0
  NextTakes taken (go m b) = Takes taken b.taken
  NextTakes taken (stuck (too_many p)) = 1024 ≤ length taken
  NextTakes taken (stuck (bad_path p)) = Unit {0}
  NextTakes taken (stuck (missing p)) = Unit {0}
  NextTakes taken (stuck (unreadable p f)) = Unit {0}
  NextTakes taken (stuck (faulty f)) = Unit {0}
  NextTakes taken over = Unit {0}

  started-takes : (at : Place) (p d : Path) (o : Option (List ℕ)) → w.text_at p ≡ o → is_taken at.taken p ≡ false → NextTakes at.taken (started w at p d o)
  started-takes at p d None q t = tt
  started-takes at p d (Some text) q t = inr (p, (text, (refl, (t, q))))

  room-takes : (at : Place) (p d : Path) (b : Bool) → nat_lt (length at.taken) 1024 ≡ b → is_taken at.taken p ≡ false
      → NextTakes at.taken (cond b (started w at p d (w.text_at p)) (stuck (too_many p)))
  room-takes at p d true q t = started-takes at p d (w.text_at p) refl t
  room-takes at p d false q t = no-less (length at.taken) 1024 q

  reach-takes : (at : Place) (p d : Path) (b : Bool) → is_taken at.taken p ≡ b
      → NextTakes at.taken (cond b (go (skip p) at) (cond (nat_lt (length at.taken) 1024) (started w at p d (w.text_at p)) (stuck (too_many p))))
  reach-takes at p d true q = inl refl
  reach-takes at p d false q = room-takes at p d (nat_lt (length at.taken) 1024) refl q

  met-takes : (x : Wish) (taken : List Path) (ds : List Declared) → Leaves taken ds x → NextTakes taken (met w x)
  met-takes (reach at j d) taken ds e =
      let P : List Path → Type 0 = λ t. NextTakes t (reached w at (w.canonical j) d) in
      subst P e.0 (reach-takes at (w.canonical j) d (is_taken at.taken (w.canonical j)) refl)
  met-takes (declare δ at) taken ds e = inl e.0
  met-takes (close p at) taken ds e = inl e.0
  met-takes (unread p f) taken ds e = tt
  met-takes (nameless p) taken ds e = tt
  met-takes done taken ds e = tt

  -- what the next mark of a place adds
  pub next-takes : (a : Place) → NextTakes a.taken (next w a)
  next-takes a = met-takes (wish a) a.taken a.declared (wish-leaves a)
