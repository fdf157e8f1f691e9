-- Images written one part after the other.
use Rattle.std.proofs.Common.{◌≡◌, ◌≢◌, ℕ, zero, suc, ◌+◌, ◌-◌, ◌%◌, ◌/◌, ◌<◌, ◌≤◌, Bool, true, false, cond, refl, sym, ap, ◌∙◌, subst, arith, Some, None, is_some, [], ◌∷◌, ◌++◌, length, nat_eq, nat_lt, ◌⊎◌, inl, inr}
use Rattle.witx_base.specs.SameBytes.{false-true}
use Rattle.witx_ast.proofs.Decided.{decides-eq, decides-lt}
use Rattle.witx_bytes.specs.Bytes.{Bytes, Image, image_written, AreHeld}
use Rattle.witx_bytes.specs.Images.{little, gap, padded_to}
use Rattle.witx_bytes.specs.Writes.{HasRange, Writes}
use Rattle.witx_bytes.proofs.Agreement.{step, self_eq, written-outside, written-holds, gap-length}

-- what is written at an address rests on that byte of the memory alone
pub written-same : (at : ℕ) (xs : Image) (m k : Bytes) (x : ℕ) → m x ≡ k x → image_written at xs m x ≡ image_written at xs k x
written-same at [] m k x h = h
written-same at (None ∷ xs) m k x h = written-same (suc at) xs m k x h
written-same at (Some b ∷ xs) m k x h = ap (cond (nat_eq x at) (Some b)) (written-same (suc at) xs m k x h)

pub written-at : (a b : ℕ) (xs : Image) (m : Bytes) (x : ℕ) → a ≡ b → image_written a xs m x ≡ image_written b xs m x
written-at a b xs m x e = ap (λ a. image_written a xs m x) e

-- one byte, and then the rest
pub byte-then : (at b x : ℕ) (xs : Image) (m k : Bytes) → k at ≡ Some b → ((y : ℕ) → y ≢ at → k y ≡ m y) → image_written (suc at) xs k x ≡ image_written at (Some b ∷ xs) m x
byte-then at b x xs m k here else = go (nat_eq x at) refl
  where
    go : (c : Bool) → nat_eq x at ≡ c → image_written (suc at) xs k x ≡ cond c (Some b) (image_written (suc at) xs m x)
    go true e = let is = (decides-eq x at).0 e in written-outside (suc at) xs k x (inl (omega (arith, is))) ∙ ap k is ∙ here
    go false e = let differs : x ≢ at = λ s. false-true (sym e ∙ (decides-eq x at).1 s) in written-same (suc at) xs k m x (else x differs)

-- so many bytes of a number are left
pub record NumberLeft (at end x rest number : ℕ) (m k : Bytes) : Type 0 where
  pub same : (y : ℕ) → image_written x (little (end - x) rest) k y ≡ image_written at (little (end - at) number) m y

pub number_first : (at end x number : ℕ) (m : Bytes) → x ≡ at → NumberLeft at end x number number m m
number_first at end x number m e = record { same = λ y. ap (λ x. image_written x (little (end - x) number) m y) e }

pub number_next : (at end x z rest more number : ℕ) (m k n : Bytes) → NumberLeft at end x rest number m k → x < end → n x ≡ Some (rest % 256) → ((y : ℕ) → y ≢ x → n y ≡ k y) → z ≡ x + 1 → more ≡ rest / 256 → NumberLeft at end z more number m n
number_next at end x z rest more number m k n f u here else z_is more_is = record {
  same = λ y.
      let next : z ≡ suc x = omega (arith, z_is) in
      let long : end - x ≡ suc (end - z) = omega (arith, u, z_is) in
      written-at z (suc x) (little (end - z) more) n y next
      ∙ ap (λ r. image_written (suc x) (little (end - z) r) n y) more_is
      ∙ byte-then x (rest % 256) y (little (end - z) (rest / 256)) k n here else
      ∙ ap (λ w. image_written x (little w rest) k y) (sym long)
      ∙ f.same y;
}

pub number_last : (at width end x rest number : ℕ) (m k : Bytes) → NumberLeft at end x rest number m k → end ≡ at + width → end ≤ x → (y : ℕ) → k y ≡ image_written at (little width number) m y
number_last at width end x rest number m k f is over y =
    let none : 0 ≡ end - x = omega (arith, over) in
    let all : end - at ≡ width = omega (arith, is) in
    ap (λ w. image_written x (little w rest) k y) none ∙ f.same y ∙ ap (λ w. image_written at (little w number) m y) all

pub ruleset number_rules = (number_first, number_next, number_last)

-- the same where the bytes are held, and stay so
pub record HeldLeft (at end x rest number : ℕ) (m k : Bytes) : Type 0 where
  pub left : NumberLeft at end x rest number m k
  pub still : AreHeld at end k

pub held_first : (at width end x number : ℕ) (m : Bytes) → x ≡ at → end ≡ at + width → HasRange at width m → HeldLeft at end x number number m m
held_first at width end x number m e is h = record { left = number_first at end x number m e; still = subst (λ end. AreHeld at end m) (sym is) h.held }

pub held_next : (at end x z rest more number : ℕ) (m k n : Bytes) → HeldLeft at end x rest number m k → x < end → Writes x (little 1 rest) k n → z ≡ x + 1 → more ≡ rest / 256 → HeldLeft at end z more number m n
held_next at end x z rest more number m k n f u w z_is more_is = record {
  left = number_next at end x z rest more number m k n f.left u (w x ∙ ap (λ c. cond c (Some (rest % 256)) (k x)) (self_eq x)) (λ y d. w y ∙ ap (λ c. cond c (Some (rest % 256)) (k y)) (differ y x d)) z_is more_is;
  still = λ y lo hi. ap is_some (w y) ∙ written-holds x (little 1 rest) k y (f.still y lo hi);
}
  where
    differ : (y x : ℕ) → y ≢ x → nat_eq y x ≡ false
    differ y x d = go (nat_eq y x) refl
      where
        go : (c : Bool) → nat_eq y x ≡ c → nat_eq y x ≡ false
        go false e = e
        go true e = absurd (d ((decides-eq y x).0 e))

pub held_last : (at width end x rest number : ℕ) (m k : Bytes) → HeldLeft at end x rest number m k → end ≡ at + width → end ≤ x → (y : ℕ) → k y ≡ image_written at (little width number) m y
held_last at width end x rest number m k f is over = number_last at width end x rest number m k f.left is over

pub ruleset held_rules = (held_first, held_next, held_last)

-- one image behind another
pub written-both : (at : ℕ) (xs ys : Image) (m : Bytes) (x : ℕ) → image_written at (xs ++ ys) m x ≡ image_written at xs (image_written (at + length xs) ys m) x
written-both at [] ys m x = written-at at (at + 0) ys m x (omega arith)
written-both at (None ∷ xs) ys m x = written-both (suc at) xs ys m x ∙ written-same (suc at) xs _ _ x (written-at (suc at + length xs) (at + suc (length xs)) ys m x (step at (length xs)))
written-both at (Some b ∷ xs) ys m x =
    ap (cond (nat_eq x at) (Some b)) (written-both (suc at) xs ys m x ∙ written-same (suc at) xs _ _ x (written-at (suc at + length xs) (at + suc (length xs)) ys m x (step at (length xs))))

not-lt : (y z : ℕ) → nat_lt y z ≡ false → z ≤ y
not-lt y z h = let differs : ¬ (y < z) = λ l. false-true (sym h ∙ (decides-lt y z).1 l) in omega (arith, differs)

pub written-then : (at : ℕ) (xs ys : Image) (m : Bytes) (x : ℕ) → image_written (at + length xs) ys (image_written at xs m) x ≡ image_written at (xs ++ ys) m x
written-then at xs ys m x = go (nat_lt x at) refl (nat_lt x (at + length xs)) refl ∙ sym (written-both at xs ys m x)
  where
    out : (x < at) ⊎ (at + length xs ≤ x) → image_written (at + length xs) ys (image_written at xs m) x ≡ image_written at xs (image_written (at + length xs) ys m) x
    out h = written-same (at + length xs) ys (image_written at xs m) m x (written-outside at xs m x h) ∙ sym (written-outside at xs (image_written (at + length xs) ys m) x h)

    go : (b : Bool) → nat_lt x at ≡ b → (c : Bool) → nat_lt x (at + length xs) ≡ c → image_written (at + length xs) ys (image_written at xs m) x ≡ image_written at xs (image_written (at + length xs) ys m) x
    go true h c k = out (inl ((decides-lt x at).0 h))
    go false h false k = out (inr (not-lt x (at + length xs) k))
    go false h true k =
        let u = (decides-lt x (at + length xs)).0 k in
        written-outside (at + length xs) ys (image_written at xs m) x (inl u) ∙ written-same at xs m (image_written (at + length xs) ys m) x (sym (written-outside (at + length xs) ys m x (inl u)))

pub writes-then : (at : ℕ) (xs ys : Image) (m k n : Bytes) → Writes at xs m k → Writes (at + length xs) ys k n → Writes at (xs ++ ys) m n
writes-then at xs ys m k n f g x = g x ∙ written-same (at + length xs) ys k (image_written at xs m) x (f x) ∙ written-then at xs ys m x

written-gap : (at n : ℕ) (m : Bytes) (x : ℕ) → image_written at (gap n) m x ≡ m x
written-gap at zero m x = refl
written-gap at (suc n) m x = written-gap (suc at) n m x

pub writes-padded : (at n : ℕ) (xs : Image) (m k : Bytes) → Writes at xs m k → Writes at (padded_to n xs) m k
writes-padded at n xs m k f x = f x ∙ sym (written-both at xs (gap (n - length xs)) m x ∙ written-same at xs _ m x (written-gap (at + length xs) (n - length xs) m x))

pub written-behind : (at n : ℕ) (xs : Image) (m : Bytes) (x : ℕ) → image_written at (gap n ++ xs) m x ≡ image_written (at + n) xs m x
written-behind at n xs m x =
    written-both at (gap n) xs m x ∙ written-gap at n _ x ∙ written-at (at + length (gap n)) (at + n) xs m x (ap (λ k. at + k) (gap-length n))

-- what is held stays held, and so does a part of it
pub range_kept : (c len at : ℕ) (xs : Image) (m k : Bytes) → HasRange c len m → Writes at xs m k → HasRange c len k
range_kept c len at xs m k h f = record { within = h.within; held = λ x l u. ap is_some (f x) ∙ written-holds at xs m x (h.held x l u) }

pub range_part : (at n c len : ℕ) (m : Bytes) → HasRange at n m → at ≤ c → c + len ≤ at + n → HasRange c len m
range_part at n c len m h l u = record { within = omega (arith, h.within, u); held = λ x lo hi. h.held x (omega (arith, l, lo)) (omega (arith, hi, u)) }
