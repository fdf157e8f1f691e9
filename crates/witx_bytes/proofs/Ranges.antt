-- Loops over the bytes of a range.
use Rattle.std.proofs.Common.{◌≡◌, ◌≢◌, ℕ, ◌+◌, ◌<◌, ◌≤◌, Bool, true, false, refl, sym, ap, ◌∙◌, arith, Option, Some, None, is_some, is_none, ◌⊎◌, inl, inr, subst, nat_eq, nat_lt, nat_le}
use Rattle.witx_ast.proofs.Decided.{decides-eq, decides-lt, decides-le}
use Rattle.witx_base.specs.SameBytes.{false-true}
use Rattle.witx_bytes.specs.Bytes.{Bytes, all_stand, stands_as, with_zeros, Filled}
use Rattle.witx_bytes.proofs.Agreement.{held-from, held-at, free-from, free-at, none-is, placed-outside, placed-own}

-- bytes that stand as is wanted, one by one
stand-from : (w : Bool) (at n : ℕ) (m : Bytes) → ((x : ℕ) → at ≤ x → x < at + n → stands_as w (m x) ≡ true) → all_stand w at n m ≡ true
stand-from true at n m h = held-from at n m h
stand-from false at n m h = free-from at n m (λ x l u. none-is (m x) (h x l u))

stand-at : (w : Bool) (at n : ℕ) (m : Bytes) → all_stand w at n m ≡ true → (x : ℕ) → at ≤ x → x < at + n → stands_as w (m x) ≡ true
stand-at true at n m e = held-at at n m e
stand-at false at n m e = λ x l u. ap is_none (free-at at n m e x l u)

-- up to x all do
abbrev pub StandTo : Bool → ℕ → ℕ → Bytes → Type 0
StandTo w at x m = (y : ℕ) → at ≤ y → y < x → stands_as w (m y) ≡ true

pub not_standing : (w : Bool) (at n x : ℕ) (m : Bytes) → at ≤ x → x < at + n → stands_as w (m x) ≡ false → all_stand w at n m ≡ false
not_standing w at n x m l u h = go (all_stand w at n m) refl
  where
    go : (b : Bool) → all_stand w at n m ≡ b → all_stand w at n m ≡ false
    go false e = e
    go true e = absurd (false-true (sym h ∙ stand-at w at n m e x l u))

not-lt : (y x : ℕ) → nat_lt y x ≡ false → x ≤ y
not-lt y x h = go (nat_le x y) refl
  where
    go : (b : Bool) → nat_le x y ≡ b → x ≤ y
    go true e = (decides-le x y).0 e
    go false e = let a : ¬ (y < x) = λ l. false-true (sym h ∙ (decides-lt y x).1 l) in omega (arith, a)

pub filled_first : (from x : ℕ) (o : Option ℕ) (m : Bytes) → x ≡ from → Filled from x o m m
filled_first from x o m e = record { inside = λ y l u. absurd (omega (arith, l, u, e)); outside = λ y h. refl }

pub filled_more : (from x z : ℕ) (o : Option ℕ) (m k n : Bytes) → Filled from x o m k → from ≤ x → n x ≡ o → ((y : ℕ) → y ≢ x → n y ≡ k y) → z ≡ x + 1 → Filled from z o m n
filled_more from x z o m k n f l here else z_is = record {
  inside = λ y lo hi. step y lo (omega (arith, hi, z_is)) (nat_eq y x) refl;
  outside = λ y h. let differs : y ≢ x = apart y h in else y differs ∙ f.outside y (elim h [ inl a ↦ inl a | inr a ↦ inr (omega (arith, a, z_is)) ]);
}
  where
    apart : (y : ℕ) → (y < from) ⊎ (z ≤ y) → y ≢ x
    apart y (inl a) e = omega (arith, a, l, e)
    apart y (inr a) e = omega (arith, a, z_is, e)

    step : (y : ℕ) → from ≤ y → y ≤ x → (b : Bool) → nat_eq y x ≡ b → n y ≡ o
    step y lo hi true e = subst (λ y. n y ≡ o) (sym ((decides-eq y x).0 e)) here
    step y lo hi false e = let differs : y ≢ x = λ s. false-true (sym e ∙ (decides-eq y x).1 s) in else y differs ∙ f.inside y lo (omega (arith, hi, differs))

-- all is filled
pub filled_placed : (at len x end : ℕ) (m k : Bytes) → Filled at x (Some 0) m k → end ≡ at + len → x ≡ end → (y : ℕ) → k y ≡ with_zeros at len m y
filled_placed at len x end m k f e is y = go (nat_lt y at) refl (nat_lt y x) refl
  where
    go : (a : Bool) → nat_lt y at ≡ a → (b : Bool) → nat_lt y x ≡ b → k y ≡ with_zeros at len m y
    go true h b j = let l = (decides-lt y at).0 h in f.outside y (inl l) ∙ sym (placed-outside at len m y (inl l))
    go false h true j = let l : at ≤ y = omega (arith, not-lt y at h) in let u = (decides-lt y x).0 j in f.inside y l u ∙ sym (placed-own at len m y l (omega (arith, u, e, is)))
    go false h false j = let u : x ≤ y = not-lt y x j in f.outside y (inr u) ∙ sym (placed-outside at len m y (inr (omega (arith, u, e, is))))

-- one part behind another
pub filled_then : (from x z : ℕ) (o : Option ℕ) (m k n : Bytes) → Filled from x o m k → Filled x z o k n → from ≤ x → x ≤ z → Filled from z o m n
filled_then from x z o m k n f g l u = record {
  inside = λ y lo hi. go y lo hi (nat_lt y x) refl;
  outside = λ y h. elim h [ inl a ↦ g.outside y (inl (omega (arith, a, l))) ∙ f.outside y (inl a) | inr a ↦ g.outside y (inr a) ∙ f.outside y (inr (omega (arith, a, u))) ];
}
  where
    go : (y : ℕ) → from ≤ y → y < z → (b : Bool) → nat_lt y x ≡ b → n y ≡ o
    go y lo hi true e = let t = (decides-lt y x).0 e in g.outside y (inl t) ∙ f.inside y lo t
    go y lo hi false e = g.inside y (not-lt y x e) hi

-- a range, part by part
pub stand_first : (w : Bool) (at x : ℕ) (m : Bytes) → x ≡ at → StandTo w at x m
stand_first w at x m e y lo hi = absurd (omega (arith, lo, hi, e))

pub stand_then : (w : Bool) (at x z n : ℕ) (m : Bytes) → StandTo w at x m → all_stand w x n m ≡ true → z ≡ x + n → StandTo w at z m
stand_then w at x z n m h p e y lo hi = go (nat_lt y x) refl
  where
    go : (b : Bool) → nat_lt y x ≡ b → stands_as w (m y) ≡ true
    go true k = h y lo ((decides-lt y x).0 k)
    go false k = stand-at w x n m p y (not-lt y x k) (omega (arith, hi, e))

pub stand_not : (w : Bool) (at len x n : ℕ) (m : Bytes) → at ≤ x → x + n ≤ at + len → all_stand w x n m ≡ false → all_stand w at len m ≡ false
stand_not w at len x n m l u p = go (all_stand w at len m) refl
  where
    go : (b : Bool) → all_stand w at len m ≡ b → all_stand w at len m ≡ false
    go false e = e
    go true e = absurd (false-true (sym p ∙ stand-from w x n m (λ y lo hi. stand-at w at len m e y (omega (arith, l, lo)) (omega (arith, hi, u)))))

pub stand_last : (w : Bool) (at len x : ℕ) (m : Bytes) → StandTo w at x m → at + len ≤ x → all_stand w at len m ≡ true
stand_last w at len x m h u = stand-from w at len m (λ y lo hi. h y lo (omega (arith, hi, u)))

pub ruleset range_rules = (not_standing, stand_last, held-from, free-from, free-at, placed-outside, placed-own)

pub ruleset span_rules = (stand_first, stand_then, stand_not, stand_last)

pub ruleset fill_rules = (filled_first, filled_more, filled_then, filled_placed)
