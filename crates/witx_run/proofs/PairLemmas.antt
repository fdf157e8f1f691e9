-- Two lists compared pair by pair, by a loop that ends at the first pair that fails.
use Rattle.std.proofs.Common.{◌≡◌, ◌≢◌, ℕ, zero, suc, ◌+◌, ◌<◌, ◌≤◌, Bool, true, false, ◌&&◌, refl, sym, ap, ◌∙◌, arith, List, [], ◌∷◌, drop, length, get_or}
use Rattle.std.specs.Cmp.Lexicographic.{pointwise}
use Rattle.std.proofs.lemmas.List.{drop_more, drop_all}

from_first : {A : Type 0} (xs : List A) → drop 0 xs ≡ xs
from_first [] = refl
from_first (x ∷ xs) = refl

-- an item is what it is, whatever stands for none
pub same-item : {A : Type 0} (xs : List A) (i : ℕ) (d e : A) → i < length xs → get_or xs i d ≡ get_or xs i e
same-item [] i d e l = absurd (omega arith)
same-item (x ∷ xs) zero d e l = refl
same-item (x ∷ xs) (suc i) d e l = same-item xs i d e (omega arith)

module _ {A B : Type 0} (test : A → B → Bool) where
  -- the pairs that are left
  abbrev pub left_pairs : List A → List B → ℕ → Bool
  left_pairs xs ys i = pointwise test (drop i xs) (drop i ys)

  pair-step : (xs : List A) (ys : List B) (i : ℕ) (x : A) (y : B) → i < length xs → i < length ys → x ≡ get_or xs i x → y ≡ get_or ys i y →
      left_pairs xs ys i ≡ test x y && left_pairs xs ys (i + 1)
  pair-step xs ys i x y l k p q = rw (drop_more xs i x l, drop_more ys i y k, ← p, ← q) refl

  all-left : (xs : List A) (ys : List B) → left_pairs xs ys 0 ≡ pointwise test xs ys
  all-left xs ys = rw (from_first xs, from_first ys) refl

  pub pair-more : (xs : List A) (ys : List B) (i : ℕ) (x : A) (y : B) (t : Bool) → i < length xs → length xs ≡ length ys → x ≡ get_or xs i x → y ≡ get_or ys i y →
      t ≡ test x y → t ≡ true → left_pairs xs ys i ≡ left_pairs xs ys 0 → left_pairs xs ys (i + 1) ≡ left_pairs xs ys 0
  pair-more xs ys i x y t l e p q s h k =
      let m : i < length ys = omega arith in
      sym (ap (λ b. b && left_pairs xs ys (i + 1)) (sym s ∙ h)) ∙ sym (pair-step xs ys i x y l m p q) ∙ k

  pub pair-fails : (xs : List A) (ys : List B) (i : ℕ) (x : A) (y : B) (t : Bool) → i < length xs → length xs ≡ length ys → x ≡ get_or xs i x → y ≡ get_or ys i y →
      t ≡ test x y → t ≡ false → left_pairs xs ys i ≡ left_pairs xs ys 0 → false ≡ pointwise test xs ys
  pair-fails xs ys i x y t l e p q s h k =
      let m : i < length ys = omega arith in
      sym (ap (λ b. b && left_pairs xs ys (i + 1)) (sym s ∙ h)) ∙ sym (pair-step xs ys i x y l m p q) ∙ k ∙ all-left xs ys

  pub pairs-end : (xs : List A) (ys : List B) (i : ℕ) → length xs ≤ i → length xs ≡ length ys → left_pairs xs ys i ≡ left_pairs xs ys 0 → true ≡ pointwise test xs ys
  pairs-end xs ys i l e k = let m : length ys ≤ i = omega arith in sym (rw (drop_all i xs l, drop_all i ys m) refl) ∙ k ∙ all-left xs ys

  pub pairs-uneven : (xs : List A) (ys : List B) → length xs ≢ length ys → false ≡ pointwise test xs ys
  pairs-uneven [] [] n = absurd (n refl)
  pairs-uneven [] (y ∷ ys) n = refl
  pairs-uneven (x ∷ xs) [] n = refl
  pairs-uneven (x ∷ xs) (y ∷ ys) n = both (test x y) (pairs-uneven xs ys (λ e. n (ap suc e)))
    where
      both : (t : Bool) → {u : Bool} → false ≡ u → false ≡ t && u
      both true e = e
      both false e = refl
