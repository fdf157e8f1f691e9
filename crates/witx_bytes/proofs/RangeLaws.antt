-- What placing a range and writing an image keep: other ranges, held and free, and what stands in them.
use Rattle.std.proofs.Common.{◌≡◌, ◌≢◌, ℕ, ◌+◌, ◌<◌, ◌≤◌, Bool, true, false, ◌||◌, refl, sym, ap, ◌∙◌, arith, Option, Some, None, is_some, length, nat_eq, nat_lt, ◌⊎◌, inl, inr}
use Rattle.witx_ast.specs.Plain.{Plain}
use Rattle.witx_ast.specs.Values.{Value}
use Rattle.witx_ast.specs.ValueTests.{is_value}
use Rattle.witx_base.specs.SameBytes.{false-true, both}
use Rattle.witx_ast.proofs.ValueLaws.{value-decides}
use Rattle.witx_ast.proofs.Decided.{decides-lt, decides-eq, both-then}
use Rattle.witx_layout.specs.Numbers.{size_of}
use Rattle.witx_bytes.specs.Bytes.{Bytes, Image, Agrees, image_written, with_zeros, in_bounds, holds, is_free}
use Rattle.witx_bytes.specs.Images.{image}
use Rattle.witx_bytes.specs.ByteMachine.{range_size, has_room}
use Rattle.witx_bytes.proofs.Agreement.{agrees-same, written-outside, written-holds, placed-outside, placed-own, placed-holds, held-from, held-at, free-from, free-at}
use Rattle.witx_bytes.proofs.Lengths.{image-length}

-- two ranges that don't overlap
abbrev pub Disjoint : ℕ → ℕ → ℕ → ℕ → Type 0
Disjoint a n b k = (a + n ≤ b) ⊎ (b + k ≤ a)

pub image-fits : (t : Plain) (v : Value) → is_value t v ≡ true → length (image t v) ≤ range_size t
image-fits t v h = omega (arith, image-length t v ((value-decides t v).0 h))

pub outside-of : (a n c k x : ℕ) → Disjoint a n c k → c ≤ x → x < c + k → (x < a) ⊎ (a + n ≤ x)
outside-of a n c k x (inl h) l u = inr (omega (arith, h, l))
outside-of a n c k x (inr h) l u = inl (omega (arith, h, u))

-- an image that stands in a range apart is untouched
pub agrees-placed : (a n c : ℕ) (q : Plain) (u : Value) (m : Bytes) → Disjoint a n c (range_size q) → is_value q u ≡ true → Agrees m c (image q u) → Agrees (with_zeros a n m) c (image q u)
agrees-placed a n c q u m d v h =
    agrees-same m (with_zeros a n m) c (image q u) (λ x l up. sym (placed-outside a n m x (outside-of a n c (range_size q) x d l (omega (arith, up, image-fits q u v))))) h

pub agrees-written : (a c : ℕ) (t q : Plain) (v u : Value) (m : Bytes) → Disjoint a (range_size t) c (range_size q) → is_value t v ≡ true → is_value q u ≡ true → Agrees m c (image q u) → Agrees (image_written a (image t v) m) c (image q u)
agrees-written a c t q v u m d is v' h =
    agrees-same m (image_written a (image t v) m) c (image q u) (λ x l up. sym (written-outside a (image t v) m x (shorter x (outside-of a (range_size t) c (range_size q) x d l (omega (arith, up, image-fits q u v')))))) h
  where
    shorter : (x : ℕ) → (x < a) ⊎ (a + range_size t ≤ x) → (x < a) ⊎ (a + length (image t v) ≤ x)
    shorter x (inl k) = inl k
    shorter x (inr k) = inr (omega (arith, k, image-fits t v is))

pub held-own : (a n : ℕ) (m : Bytes) → is_free a n m ≡ true → holds a n (with_zeros a n m) ≡ true
held-own a n m h = both-then _ _ (both (in_bounds a n) _ h).0 (held-from a n (with_zeros a n m) (λ x l u. ap is_some (placed-own a n m x l u)))

pub held-placed : (a n c k : ℕ) (m : Bytes) → holds c k m ≡ true → holds c k (with_zeros a n m) ≡ true
held-placed a n c k m h =
    let p = both (in_bounds c k) _ h in
    both-then _ _ p.0 (held-from c k (with_zeros a n m) (λ x l u. placed-holds a n m x (held-at c k m p.1 x l u)))

pub held-written : (a : ℕ) (xs : Image) (c k : ℕ) (m : Bytes) → holds c k m ≡ true → holds c k (image_written a xs m) ≡ true
held-written a xs c k m h =
    let p = both (in_bounds c k) _ h in
    both-then _ _ p.0 (held-from c k (image_written a xs m) (λ x l u. written-holds a xs m x (held-at c k m p.1 x l u)))

pub free-placed : (a n c k : ℕ) (m : Bytes) → Disjoint a n c k → is_free c k m ≡ true → is_free c k (with_zeros a n m) ≡ true
free-placed a n c k m d h =
    let p = both (in_bounds c k) _ h in
    both-then _ _ p.0 (free-from c k (with_zeros a n m) (λ x l u. placed-outside a n m x (outside-of a n c k x d l u) ∙ free-at c k m p.1 x l u))

some-none : {o : Option ℕ} → is_some o ≡ true → o ≡ None → ⊥
some-none h e = false-true (sym (ap is_some e) ∙ h)

some-not : {o : Option ℕ} {y : ℕ} → o ≡ Some y → o ≡ None → ⊥
some-not h e = false-true (sym (ap is_some e) ∙ ap is_some h)

-- a byte lies before a range, in it, or behind it
lies : (a n x : ℕ) (P : Type 0) → ((x < a) ⊎ (a + n ≤ x) → P) → (a ≤ x → x < a + n → P) → P
lies a n x P out in' = go (nat_lt x a) refl (nat_lt x (a + n)) refl
  where
    not-lt : (y z : ℕ) → nat_lt y z ≡ false → z ≤ y
    not-lt y z h = let no' : ¬ (y < z) = λ l. false-true (sym h ∙ (decides-lt y z).1 l) in omega (arith, no')

    go : (b : Bool) → nat_lt x a ≡ b → (c : Bool) → nat_lt x (a + n) ≡ c → P
    go true h c k = out (inl ((decides-lt x a).0 h))
    go false h false k = out (inr (not-lt x (a + n) k))
    go false h true k = in' (not-lt x a h) ((decides-lt x (a + n)).0 k)

-- what is written where bytes are held leaves free ranges free
pub free-written : (a n c k : ℕ) (xs : Image) (m : Bytes) → length xs ≤ n → is_free c k m ≡ true → holds a n m ≡ true → is_free c k (image_written a xs m) ≡ true
free-written a n c k xs m long h held =
    let p = both (in_bounds c k) _ h in
    let q = both (in_bounds a n) _ held in
    both-then _ _ p.0 (free-from c k (image_written a xs m) (λ x l u.
    lies a n x (image_written a xs m x ≡ None)
    (λ out. written-outside a xs m x (shorter x out) ∙ free-at c k m p.1 x l u)
    (λ lo hi. absurd (some-none (held-at a n m q.1 x lo hi) (free-at c k m p.1 x l u)))))
  where
    shorter : (x : ℕ) → (x < a) ⊎ (a + n ≤ x) → (x < a) ⊎ (a + length xs ≤ x)
    shorter x (inl e) = inl e
    shorter x (inr e) = inr (omega (arith, e, long))

-- a byte in use isn't in a free range
pub byte-outside : (a n x y : ℕ) (m : Bytes) → is_free a n m ≡ true → m x ≡ Some y → (x < a) ⊎ (a + n ≤ x)
byte-outside a n x y m h e =
    lies a n x ((x < a) ⊎ (a + n ≤ x)) (λ out. out) (λ lo hi. absurd (some-not e (free-at a n m (both (in_bounds a n) _ h).1 x lo hi)))

pub room-of : (t : Plain) (a : ℕ) (m : Bytes) → holds a (range_size t) m ≡ true → has_room t a m ≡ true
room-of t a m h = go (nat_eq (size_of t) 0) refl
  where
    go : (b : Bool) → nat_eq (size_of t) 0 ≡ b → (b || holds a (size_of t) m) ≡ true
    go true e = refl
    go false e =
        let some : size_of t ≢ 0 = λ z. false-true (sym e ∙ (decides-eq (size_of t) 0).1 z) in
        let same : range_size t ≡ size_of t = omega (arith, some) in
        ap (λ n. holds a n m) (sym same) ∙ h

-- what is held once a range is placed was held, or is in the range
pub placed-only : (a n : ℕ) (m : Bytes) (x : ℕ) → is_some (with_zeros a n m x) ≡ true → (is_some (m x) ≡ true) ⊎ ((a ≤ x) × (x < a + n))
placed-only a n m x h =
    lies a n x ((is_some (m x) ≡ true) ⊎ ((a ≤ x) × (x < a + n))) (λ out. inl (ap is_some (sym (placed-outside a n m x out)) ∙ h)) (λ lo hi. inr (lo, hi))

-- where a range is held, nothing further is held once it is written
pub written-only : (a n : ℕ) (xs : Image) (m : Bytes) (x : ℕ) → length xs ≤ n → holds a n m ≡ true → is_some (image_written a xs m x) ≡ true → is_some (m x) ≡ true
written-only a n xs m x long held h =
    lies a n x (is_some (m x) ≡ true) (λ out. ap is_some (sym (written-outside a xs m x (shorter out))) ∙ h) (λ lo hi. held-at a n m (both (in_bounds a n) _ held).1 x lo hi)
  where
    shorter : (x < a) ⊎ (a + n ≤ x) → (x < a) ⊎ (a + length xs ≤ x)
    shorter (inl e) = inl e
    shorter (inr e) = inr (omega (arith, e, long))
