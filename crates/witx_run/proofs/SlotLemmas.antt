-- One more slot is the newest, and is found in the map of places.
use Rattle.std.proofs.Common.{◌≡◌, ℕ, zero, suc, ◌<◌, Bool, true, false, cond, T, List, [], ◌∷◌, ◌++◌, map, length, refl, sym, ap, ◌∙◌, subst, arith, Option, Some, None, option_map, slice_get, nat_eq, nat_lt, ltb→lt}
use Rattle.std.specs.Prelude.{reverse}
use Rattle.std.specs.declared.cmp.Ordering.TheVariants.{Less, Equal, Greater}
use Rattle.std.specs.Ordering.{is_eq, nat_cmp}
use Rattle.std.specs.Cmp.{nat_cmp_is}
use Rattle.std.specs.BTreeMap.{BTreeMap, get, is_at, Updates}
use Rattle.std.proofs.lemmas.Bool.{eq-eqb, eqb-true}
use Rattle.std.proofs.lemmas.List.{reverse-append}
use Rattle.witx_machine.specs.Machine.{slot_word}
use Rattle.witx_run.specs.SlotViews.{address_at}

not-same : (a b : ℕ) → (a ≡ b → ⊥) → nat_eq a b ≡ false
not-same a b n = by (nat_eq a b) refl
  where
    by : (t : Bool) → nat_eq a b ≡ t → t ≡ false
    by false e = refl
    by true e = absurd (n (eqb-true a b e))

at-same : (k q : ℕ) → is_at (nat_cmp k) q ≡ nat_eq q k
at-same k q = by (nat_lt k q) refl (nat_lt q k) refl
  where
    by : (s : Bool) → nat_lt k q ≡ s → (t : Bool) → nat_lt q k ≡ t → is_eq (nat_cmp k q) ≡ nat_eq q k
    by true e t f = let lt : k < q = ltb→lt k q (subst T (sym e) tt) in ap is_eq (sym (nat_cmp_is k q Less lt)) ∙ sym (not-same q k (λ same. absurd (omega arith)))
    by false e true f = let lt : q < k = ltb→lt q k (subst T (sym f) tt) in ap is_eq (sym (nat_cmp_is k q Greater lt)) ∙ sym (not-same q k (λ same. absurd (omega arith)))
    by false e false f = let same : k ≡ q = grind (arith, nat_lt) in ap is_eq (sym (nat_cmp_is k q Equal same)) ∙ sym (eq-eqb q k (sym same))

pub given-word : {w W : Type 0} (word : w → W) (k : ℕ) (xs : List (ℕ × w)) → slot_word k (map (λ (s : ℕ × w). (s.0, word s.1)) xs) ≡ option_map word (slot_word k xs)
given-word word k [] = refl
given-word {w} word k (x ∷ xs) = by (nat_eq k x.0) (given-word word k xs)
  where
    by : (b : Bool) → slot_word k (map (λ (s : ℕ × w). (s.0, word s.1)) xs) ≡ option_map word (slot_word k xs) →
        cond b (Some (word x.1)) (slot_word k (map (λ (s : ℕ × w). (s.0, word s.1)) xs)) ≡ option_map word (cond b (Some x.1) (slot_word k xs))
    by true h = refl
    by false h = h

at-end : {w : Type 0} (xs : List (ℕ × w)) (x : ℕ × w) → option_map (λ (p : ℕ × w). p.1) (slice_get (xs ++ x ∷ []) (length xs)) ≡ Some x.1
at-end [] x = refl
at-end (y ∷ xs) x = at-end xs x

before-end : {A : Type 0} (xs : List A) (x : A) (i : ℕ) → i < length xs → slice_get (xs ++ x ∷ []) i ≡ slice_get xs i
before-end [] x i l = absurd (omega arith)
before-end (z ∷ xs) x zero l = refl
before-end (z ∷ xs) x (suc i) l = before-end xs x i (omega arith)

longer : {A : Type 0} (xs : List A) (x : A) → length (xs ++ x ∷ []) ≡ suc (length xs)
longer [] x = refl
longer (y ∷ xs) x = ap suc (longer xs x)

-- the first address of a slot: what is found of it, and of any other
module _ {w : Type 0} (xs new : List (ℕ × w)) (m n : BTreeMap ℕ ℕ) (k i : ℕ) (a : w) (at : i ≡ length xs) (one : new ≡ xs ++ (k, a) ∷ []) (b : (q j : ℕ) → get nat_cmp m q ≡ Some j → j < length xs) (u : Updates nat_cmp m n k (Some i)) where
  other : (o : Option ℕ) → ((j : ℕ) → o ≡ Some j → j < length xs) → address_at xs o ≡ address_at (xs ++ (k, a) ∷ []) o
  other None c = refl
  other (Some j) c = ap (option_map (λ (p : ℕ × w). p.1)) (sym (before-end xs (k, a) j (c j refl)))

  pub agrees-more : ((q : ℕ) → slot_word q (reverse xs) ≡ address_at xs (get nat_cmp m q)) → (q : ℕ) → slot_word q (reverse new) ≡ address_at new (get nat_cmp n q)
  agrees-more h q =
      ap (λ l. slot_word q (reverse l)) one
      ∙ ap (slot_word q) (reverse-append xs ((k, a) ∷ []))
      ∙ by (nat_eq q k)
      ∙ ap (λ t. address_at (xs ++ (k, a) ∷ []) (cond t (Some i) (get nat_cmp m q))) (sym (at-same k q))
      ∙ ap (address_at (xs ++ (k, a) ∷ [])) (sym (u.0 q))
      ∙ ap (λ l. address_at l (get nat_cmp n q)) (sym one)
    where
      by : (t : Bool) → cond t (Some a) (slot_word q (reverse xs)) ≡ address_at (xs ++ (k, a) ∷ []) (cond t (Some i) (get nat_cmp m q))
      by true = sym (at-end xs (k, a)) ∙ ap (λ j. address_at (xs ++ (k, a) ∷ []) (Some j)) (sym at)
      by false = h q ∙ other (get nat_cmp m q) (b q)

  pub known-more : (q j : ℕ) → get nat_cmp n q ≡ Some j → j < length new
  known-more q j e = subst (λ l. j < length l) (sym one) (by (is_at (nat_cmp k) q) (sym (u.0 q) ∙ e))
    where
      by : (t : Bool) → cond t (Some i) (get nat_cmp m q) ≡ Some j → j < length (xs ++ (k, a) ∷ [])
      by true h = let same : i ≡ j = cc in let long = longer xs (k, a) in omega arith
      by false h = let less = b q j h in let long = longer xs (k, a) in omega arith
