-- How images agree with a memory, piece by piece, and what writing and placing change.
use Rattle.std.proofs.Common.{◌≡◌, ◌≢◌, ℕ, zero, suc, ◌+◌, ◌-◌, ◌<◌, ◌≤◌, Bool, true, false, cond, ◌&&◌, refl, sym, ap, ◌∙◌, subst, arith, Option, Some, None, is_some, is_none, [], ◌∷◌, ◌++◌, length, nat_eq, nat_lt, nat_le, ◌⊎◌, inl, inr}
use Rattle.witx_bytes.specs.Bytes.{Bytes, Image, Agrees, image_written, with_zeros, all_held, none_held}
use Rattle.witx_bytes.specs.Images.{gap, padded_to}
use Rattle.witx_ast.proofs.Decided.{decides-lt, decides-le, decides-eq, both-then}
use Rattle.witx_base.specs.SameBytes.{false-true, both}

-- the address counts up
pub step : (at n : ℕ) → suc at + n ≡ at + suc n
step at n = omega arith

pub agrees-at : (m : Bytes) (xs : Image) (a b : ℕ) → a ≡ b → Agrees m a xs → Agrees m b xs
agrees-at m xs a b e h = subst (λ a. Agrees m a xs) e h

pub agrees-left : (m : Bytes) (at : ℕ) (xs ys : Image) → Agrees m at (xs ++ ys) → Agrees m at xs
agrees-left m at [] ys h = tt
agrees-left m at (None ∷ xs) ys h = agrees-left m (suc at) xs ys h
agrees-left m at (Some b ∷ xs) ys h = (h.0, agrees-left m (suc at) xs ys h.1)

pub agrees-right : (m : Bytes) (at : ℕ) (xs ys : Image) → Agrees m at (xs ++ ys) → Agrees m (at + length xs) ys
agrees-right m at [] ys h = agrees-at m ys at (at + 0) (omega arith) h
agrees-right m at (None ∷ xs) ys h = agrees-at m ys _ _ (step at (length xs)) (agrees-right m (suc at) xs ys h)
agrees-right m at (Some b ∷ xs) ys h = agrees-at m ys _ _ (step at (length xs)) (agrees-right m (suc at) xs ys h.1)

pub agrees-both : (m : Bytes) (at : ℕ) (xs ys : Image) → Agrees m at xs → Agrees m (at + length xs) ys → Agrees m at (xs ++ ys)
agrees-both m at [] ys h k = agrees-at m ys (at + 0) at (omega arith) k
agrees-both m at (None ∷ xs) ys h k = agrees-both m (suc at) xs ys h (agrees-at m ys _ _ (sym (step at (length xs))) k)
agrees-both m at (Some b ∷ xs) ys h k = (h.0, agrees-both m (suc at) xs ys h.1 (agrees-at m ys _ _ (sym (step at (length xs))) k))

pub gap-agrees : (m : Bytes) (at n : ℕ) → Agrees m at (gap n)
gap-agrees m at zero = tt
gap-agrees m at (suc n) = gap-agrees m (suc at) n

pub gap-length : (n : ℕ) → length (gap n) ≡ n
gap-length zero = refl
gap-length (suc n) = ap suc (gap-length n)

pub length-both : (xs ys : Image) → length (xs ++ ys) ≡ length xs + length ys
length-both [] ys = omega arith
length-both (x ∷ xs) ys = let e : suc (length xs + length ys) ≡ suc (length xs) + length ys = omega arith in ap suc (length-both xs ys) ∙ e

pub padded-length : (n : ℕ) (xs : Image) → length xs ≤ n → length (padded_to n xs) ≡ n
padded-length n xs h = length-both xs (gap (n - length xs)) ∙ ap (λ k. length xs + k) (gap-length (n - length xs)) ∙ omega (arith, h)

pub padded-agrees : (m : Bytes) (at n : ℕ) (xs : Image) → Agrees m at xs → Agrees m at (padded_to n xs)
padded-agrees m at n xs h = agrees-both m at xs (gap (n - length xs)) h (gap-agrees m (at + length xs) (n - length xs))

-- only the bytes of the range count
pub agrees-same : (m k : Bytes) (at : ℕ) (xs : Image) → ((x : ℕ) → at ≤ x → x < at + length xs → m x ≡ k x) → Agrees m at xs → Agrees k at xs
agrees-same m k at [] same h = tt
agrees-same m k at (None ∷ xs) same h = agrees-same m k (suc at) xs (λ x l u. same x (omega (arith, l)) (omega (arith, u))) h
agrees-same m k at (Some b ∷ xs) same h =
    (sym (same at (omega arith) (omega arith)) ∙ h.0, agrees-same m k (suc at) xs (λ x l u. same x (omega (arith, l)) (omega (arith, u))) h.1)

other : (x at : ℕ) → (x < at) ⊎ (at < x) → nat_eq x at ≡ false
other x at h = go (nat_eq x at) refl
  where
    go : (b : Bool) → nat_eq x at ≡ b → nat_eq x at ≡ false
    go false e = e
    go true e = let same = (decides-eq x at).0 e in elim h [ inl l ↦ absurd (omega (arith, same, l)) | inr l ↦ absurd (omega (arith, same, l)) ]

pub self_eq : (x : ℕ) → nat_eq x x ≡ true
self_eq x = (decides-eq x x).1 refl

-- what lies outside stays
pub written-outside : (at : ℕ) (xs : Image) (m : Bytes) (x : ℕ) → (x < at) ⊎ (at + length xs ≤ x) → image_written at xs m x ≡ m x
written-outside at [] m x h = refl
written-outside at (None ∷ xs) m x h = written-outside (suc at) xs m x (elim h [ inl l ↦ inl (omega (arith, l)) | inr l ↦ inr (omega (arith, l)) ])
written-outside at (Some b ∷ xs) m x h =
    ap (λ c. cond c (Some b) (image_written (suc at) xs m x)) (other x at (elim h [ inl l ↦ inl l | inr l ↦ inr (omega (arith, l)) ])) ∙ written-outside (suc at) xs m x (elim h [ inl l ↦ inl (omega (arith, l)) | inr l ↦ inr (omega (arith, l)) ])

-- what was written stands
pub written-own : (at : ℕ) (xs : Image) (m : Bytes) → Agrees (image_written at xs m) at xs
written-own at [] m = tt
written-own at (None ∷ xs) m = agrees-same (image_written (suc at) xs m) (image_written at (None ∷ xs) m) (suc at) xs (λ x l u. refl) (written-own (suc at) xs m)
written-own at (Some b ∷ xs) m = (
  ap (λ c. cond c (Some b) (image_written (suc at) xs m at)) (self_eq at),
  agrees-same (image_written (suc at) xs m) (image_written at (Some b ∷ xs) m) (suc at) xs (λ x l u. sym (ap (λ c. cond c (Some b) (image_written (suc at) xs m x)) (other x at (inr (omega (arith, l)))))) (written-own (suc at) xs m),
)

-- a byte that stood is still one
pub written-holds : (at : ℕ) (xs : Image) (m : Bytes) (x : ℕ) → is_some (m x) ≡ true → is_some (image_written at xs m x) ≡ true
written-holds at [] m x h = h
written-holds at (None ∷ xs) m x h = written-holds (suc at) xs m x h
written-holds at (Some b ∷ xs) m x h = go (nat_eq x at) (written-holds (suc at) xs m x h)
  where
    go : (c : Bool) → is_some (image_written (suc at) xs m x) ≡ true → is_some (cond c (Some b) (image_written (suc at) xs m x)) ≡ true
    go true k = refl
    go false k = k

-- placing
pub placed-outside : (at len : ℕ) (m : Bytes) (x : ℕ) → (x < at) ⊎ (at + len ≤ x) → with_zeros at len m x ≡ m x
placed-outside at len m x h = ap (λ c. cond c (Some 0) (m x)) (out (nat_le at x && nat_lt x (at + len)) refl)
  where
    out : (c : Bool) → (nat_le at x && nat_lt x (at + len)) ≡ c → (nat_le at x && nat_lt x (at + len)) ≡ false
    out false e = e
    out true e =
        let p = both _ _ e in let lo = (decides-le at x).0 p.0 in let hi = (decides-lt x (at + len)).0 p.1 in
        elim h [ inl l ↦ absurd (omega (arith, lo, l)) | inr l ↦ absurd (omega (arith, hi, l)) ]

pub placed-own : (at len : ℕ) (m : Bytes) (x : ℕ) → at ≤ x → x < at + len → with_zeros at len m x ≡ Some 0
placed-own at len m x l u = ap (λ c. cond c (Some 0) (m x)) (both-then _ _ ((decides-le at x).1 l) ((decides-lt x (at + len)).1 u))

pub placed-holds : (at len : ℕ) (m : Bytes) (x : ℕ) → is_some (m x) ≡ true → is_some (with_zeros at len m x) ≡ true
placed-holds at len m x h = go (nat_le at x && nat_lt x (at + len))
  where
    go : (c : Bool) → is_some (cond c (Some 0) (m x)) ≡ true
    go true = refl
    go false = h

-- held and free ranges, byte by byte
pub held-from : (at n : ℕ) (m : Bytes) → ((x : ℕ) → at ≤ x → x < at + n → is_some (m x) ≡ true) → all_held at n m ≡ true
held-from at zero m h = refl
held-from at (suc n) m h = both-then _ _ (h at (omega arith) (omega arith)) (held-from (suc at) n m (λ x l u. h x (omega (arith, l)) (omega (arith, u))))

later : (x at : ℕ) → at ≤ x → nat_eq x at ≡ false → suc at ≤ x
later x at l e = let differ : x ≢ at = λ same. false-true (sym e ∙ (decides-eq x at).1 same) in omega (arith, l, differ)

pub held-at : (at n : ℕ) (m : Bytes) → all_held at n m ≡ true → (x : ℕ) → at ≤ x → x < at + n → is_some (m x) ≡ true
held-at at zero m h x l u = absurd (omega (arith, l, u))
held-at at (suc n) m h x l u = go (nat_eq x at) refl (λ l. held-at (suc at) n m (both (is_some (m at)) _ h).1 x l (omega (arith, u)))
  where
    go : (c : Bool) → nat_eq x at ≡ c → (suc at ≤ x → is_some (m x) ≡ true) → is_some (m x) ≡ true
    go true e k = subst (λ x. is_some (m x) ≡ true) (sym ((decides-eq x at).0 e)) (both _ _ h).0
    go false e k = k (later x at l e)

pub free-from : (at n : ℕ) (m : Bytes) → ((x : ℕ) → at ≤ x → x < at + n → m x ≡ None) → none_held at n m ≡ true
free-from at zero m h = refl
free-from at (suc n) m h = both-then _ _ (ap is_none (h at (omega arith) (omega arith))) (free-from (suc at) n m (λ x l u. h x (omega (arith, l)) (omega (arith, u))))

pub none-is : (o : Option ℕ) → is_none o ≡ true → o ≡ None
none-is None h = refl
none-is (Some b) h = absurd (false-true h)

pub free-at : (at n : ℕ) (m : Bytes) → none_held at n m ≡ true → (x : ℕ) → at ≤ x → x < at + n → m x ≡ None
free-at at zero m h x l u = absurd (omega (arith, l, u))
free-at at (suc n) m h x l u = go (nat_eq x at) refl (λ l. free-at (suc at) n m (both (is_none (m at)) _ h).1 x l (omega (arith, u)))
  where
    go : (c : Bool) → nat_eq x at ≡ c → (suc at ≤ x → m x ≡ None) → m x ≡ None
    go true e k = subst (λ x. m x ≡ None) (sym ((decides-eq x at).0 e)) (none-is (m at) (both _ _ h).0)
    go false e k = k (later x at l e)
