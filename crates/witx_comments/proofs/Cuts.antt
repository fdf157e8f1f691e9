-- `cut_is`: the last character boundary at or below a byte, as std's method finds it, is where a line is cut.
use Rattle.std.proofs.Common.{◌≡◌, ℕ, zero, suc, ◌<◌, ◌≤◌, ◌⊎◌, inl, inr, List, [], length, drop, get_or, Bool, true, false, refl, sym, ap, subst, ◌∙◌, arith}
use Rattle.std.proofs.lemmas.Bool.Decides.{nat_tests}
use Rattle.std.proofs.lemmas.Str.{IsCharBoundary-end, IsCharBoundary-start}
use Rattle.std.proofs.lemmas.List.{get_or_past, drop_all}
use Rattle.std.specs.Fmt.{is_char_start}
use Rattle.std.specs.Fmt.Cut.{floor_char_boundary}
use Rattle.std.specs.Str.{IsCharBoundary, IsUtf8}

-- the last character boundary of bs at or below i
abbrev pub IsLastBoundary : List ℕ → ℕ → ℕ → Type 0
IsLastBoundary bs i kept = (kept ≤ i) × IsCharBoundary bs kept × ((j : ℕ) → kept < j → j ≤ i → IsCharBoundary bs j → ⊥)

order : (a b : ℕ) → (a < b) ⊎ (b ≤ a)
order a zero = inr (omega arith)
order zero (suc b) = inl (omega arith)
order (suc a) (suc b) = elim (order a b) [ inl below ↦ inl (omega arith) | inr above ↦ inr (omega arith) ]

pub tells : (b : Bool) → (b ≡ true) ⊎ (b ≡ false)
tells true = inl refl
tells false = inr refl

starts : (b : ℕ) → (128 ≤ b → 192 ≤ b) → is_char_start b ≡ true
starts b h = grind (arith, nat_tests)

starts_so : (b : ℕ) → is_char_start b ≡ true → 128 ≤ b → 192 ≤ b
starts_so b h high = grind (arith, nat_tests)

begins : (bs : List ℕ) (i : ℕ) → IsCharBoundary bs i → is_char_start (get_or bs i 0) ≡ true
begins bs i (within, byte) = elim (order i (length bs)) [
  | inl inside ↦ starts _ (byte inside)
  | inr past ↦ rw (get_or_past bs i 0 past) refl
]

-- one step down
at_start : (bs : List ℕ) (i : ℕ) → is_char_start (get_or bs (suc i) 0) ≡ true → floor_char_boundary bs (suc i) ≡ suc i
unfolding floor_char_boundary
at_start bs i h = rw h refl

past_start : (bs : List ℕ) (i : ℕ) → is_char_start (get_or bs (suc i) 0) ≡ false → floor_char_boundary bs (suc i) ≡ floor_char_boundary bs i
unfolding floor_char_boundary
past_start bs i h = rw h refl

at_zero : (bs : List ℕ) → floor_char_boundary bs 0 ≡ 0
unfolding floor_char_boundary
at_zero bs = refl

pub floor_is_boundary : (bs : List ℕ) (i : ℕ) → IsUtf8 bs → i ≤ length bs → IsCharBoundary bs (floor_char_boundary bs i)
floor_is_boundary bs zero u within = rw at_zero (IsCharBoundary-start bs u)
floor_is_boundary bs (suc i) u within = elim (tells (is_char_start (get_or bs (suc i) 0))) [
  | inl start ↦ rw (at_start bs i start) (within, λ _. starts_so _ start)
  | inr inner ↦ rw (past_start bs i inner) (floor_is_boundary bs i u (omega arith))
]

-- at a boundary the search stops; anywhere else within the text it goes on
not_start : (bs : List ℕ) (i : ℕ) → i ≤ length bs → (IsCharBoundary bs i → ⊥) → is_char_start (get_or bs i 0) ≡ false
not_start bs i within never = elim (tells (is_char_start (get_or bs i 0))) [
  | inl start ↦ absurd (never (within, λ _. starts_so _ start))
  | inr h ↦ h
]

pub floor_is : (bs : List ℕ) (i kept : ℕ) → i ≤ length bs → IsLastBoundary bs i kept → floor_char_boundary bs i ≡ kept
floor_is bs zero kept within last = rw at_zero (omega arith)
floor_is bs (suc i) kept within last = elim (order kept (suc i)) [
  | inl below ↦ past_start bs i (not_start bs (suc i) within (last.2 (suc i) below (omega arith)))
      ∙ floor_is bs i kept (omega arith) (omega arith, last.1, λ j above le. last.2 j above (omega arith))
  | inr above ↦ let same : kept ≡ suc i = omega arith in
      at_start bs i (subst (λ k. is_char_start (get_or bs k 0) ≡ true) same (begins bs kept last.1)) ∙ sym same
]

past_end : (bs : List ℕ) (i : ℕ) → length bs ≤ i → drop (floor_char_boundary bs i) bs ≡ []
past_end bs zero long = rw at_zero (drop_all 0 bs long)
past_end bs (suc i) long = let zero_byte : get_or bs (suc i) 0 ≡ 0 = get_or_past bs (suc i) 0 long in
    rw (at_start bs i (rw zero_byte refl)) (drop_all (suc i) bs long)

pub cut_is : (bs : List ℕ) (i kept : ℕ) → IsLastBoundary bs i kept → drop (floor_char_boundary bs i) bs ≡ drop kept bs
cut_is bs i kept last = elim (order i (length bs)) [
  | inl inside ↦ ap (λ k. drop k bs) (floor_is bs i kept (omega arith) last)
  | inr past ↦ past_end bs i past ∙ sym (drop_all kept bs (elim (order kept (length bs)) [
    | inl short ↦ absurd (last.2 (length bs) short past (IsCharBoundary-end bs))
    | inr long ↦ long
  ]))
]
