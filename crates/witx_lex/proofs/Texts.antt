-- The first bytes of a text, and its longest run of bytes of a class: where it stops, and that it ends where a character does.
use Rattle.std.proofs.Common.{◌≡◌, ◌≢◌, ◌==◌, ℕ, suc, ◌+◌, ◌-◌, ◌<◌, Bool, true, false, List, [], ◌∷◌, ◌++◌, length, get_or, take, drop, IsUtf8, refl, sym, ap, ◌∙◌, subst, inl, inr, arith, take_at}
use Rattle.std.proofs.lemmas.Bool.Decides.{nat_tests}
use Rattle.std.proofs.lemmas.Bool.{cases_lt, and_parts}
use Rattle.std.proofs.lemmas.List.{drop_more, get_or_past, drop_all}
use Rattle.std.proofs.lemmas.List.Sums.{prefix_len-le-length, prefix_len_passes, prefix_len_stops}
use Rattle.std.proofs.lemmas.Str.{IsCharBoundary-start, IsCharBoundary-end, IsCharBoundary-before_ascii, IsCharBoundary-after_ascii}
use Rattle.std.specs.List.{prefix_len, list_all}
use Rattle.std.specs.Str.{IsCharBoundary}
use Rattle.witx_lex.specs.Characters.{begins}

-- a byte that is not 0 was read inside the text
pub within_from_byte : (xs : List ℕ) (i : ℕ) → 0 < get_or xs i 0 → i < length xs
within_from_byte xs i h = elim (cases_lt i (length xs)) [ inl within ↦ within | inr past ↦ absurd (omega (arith, get_or_past xs i 0 past)) ]

pub front : (xs : List ℕ) (b : ℕ) → 0 < length xs → get_or xs 0 0 ≡ b → xs ≡ b ∷ drop 1 xs
front [] b l e = absurd (omega arith)
front (x ∷ xs) b l e = ap (λ (y : ℕ). y ∷ xs) e

pub front_two : (xs : List ℕ) (b c : ℕ) → 0 < b → 0 < c → get_or xs 0 0 ≡ b → get_or xs 1 0 ≡ c → xs ≡ b ∷ c ∷ drop 2 xs
front_two [] b c lb lc eb ec = absurd (omega arith)
front_two (x ∷ []) b c lb lc eb ec = absurd (omega arith)
front_two (x ∷ y ∷ xs) b c lb lc eb ec = ap (λ (z : ℕ). z ∷ y ∷ xs) eb ∙ ap (λ (z : ℕ). b ∷ z ∷ xs) ec

pub begins-index : (p : ℕ → Bool) (xs : List ℕ) → p 0 ≡ false → begins p xs ≡ p (get_or xs 0 0)
begins-index p [] e = sym e
begins-index p (x ∷ xs) e = refl

-- all of a run passes
all_of_step : (p : ℕ → Bool) (x : ℕ) (xs : List ℕ) (b : Bool) → p x ≡ b → list_all p (take (prefix_len p xs) xs) ≡ true → list_all p (take (prefix_len p (x ∷ xs)) (x ∷ xs)) ≡ true
all_of_step p x xs true e more =
    let k : 1 + prefix_len p xs ≡ suc (prefix_len p xs) = omega arith in
    rw (e, k, e) more
all_of_step p x xs false e more = rw e refl

pub all_of_run : (p : ℕ → Bool) (xs : List ℕ) → list_all p (take (prefix_len p xs) xs) ≡ true
all_of_run p [] = refl
all_of_run p (x ∷ xs) = all_of_step p x xs (p x) refl (all_of_run p xs)

-- what follows a run begins with no byte that passes
pub run_stops : (p : ℕ → Bool) (xs : List ℕ) → begins p (drop (prefix_len p xs) xs) ≡ false
run_stops p xs =
    elim (cases_lt (prefix_len p xs) (length xs)) [
      | inl within ↦ rw (drop_more xs (prefix_len p xs) 0 within) (prefix_len_stops p xs 0 within)
      | inr past ↦ rw (drop_all (prefix_len p xs) xs past) refl
    ]

-- a run of ASCII bytes ends where a character does
pub IsCharBoundary-ascii_run : (p : ℕ → Bool) (bs : List ℕ) → IsUtf8 bs → ((c : ℕ) → p c ≡ true → c < 128) → IsCharBoundary bs (prefix_len p bs)
IsCharBoundary-ascii_run p bs utf8 ascii =
    elim (cases_lt 0 (prefix_len p bs)) [
      | inl some ↦
          let before : prefix_len p bs ≡ (prefix_len p bs - 1) + 1 = omega arith in
          let lt : prefix_len p bs - 1 < prefix_len p bs = omega arith in
          subst (IsCharBoundary bs) (sym before)
          (IsCharBoundary-after_ascii bs (prefix_len p bs - 1) utf8 (omega (arith, prefix_len-le-length p bs)) (ascii _ (prefix_len_passes p bs (prefix_len p bs - 1) 0 lt)))
      | inr none ↦ let zero-is : 0 ≡ prefix_len p bs = omega arith in subst (IsCharBoundary bs) zero-is (IsCharBoundary-start bs utf8)
    ]

-- and so does a run that only an ASCII byte stops
pub IsCharBoundary-wide_run : (p : ℕ → Bool) (bs : List ℕ) → ((c : ℕ) → p c ≡ false → c < 128) → IsCharBoundary bs (prefix_len p bs)
IsCharBoundary-wide_run p bs ascii =
    elim (cases_lt (prefix_len p bs) (length bs)) [
      | inl within ↦ IsCharBoundary-before_ascii bs (prefix_len p bs) within (ascii _ (prefix_len_stops p bs 0 within))
      | inr past ↦
          let whole : length bs ≡ prefix_len p bs = omega (arith, prefix_len-le-length p bs) in
          subst (IsCharBoundary bs) whole (IsCharBoundary-end bs)
    ]

-- a run is found again in front of what does not begin with a byte that passes
pub prefix_run : (p : ℕ → Bool) (r rest : List ℕ) → list_all p r ≡ true → begins p rest ≡ false → prefix_len p (r ++ rest) ≡ length r
prefix_run p [] [] all stop = refl
prefix_run p [] (c ∷ rest) all stop = rw stop refl
prefix_run p (c ∷ r) rest all stop =
    let parts = and_parts (p c) (list_all p r) all in
    rw parts.0 (omega (arith, prefix_run p r rest parts.1 stop))

pub take_run : (p : ℕ → Bool) (r rest : List ℕ) → list_all p r ≡ true → begins p rest ≡ false → take (prefix_len p (r ++ rest)) (r ++ rest) ≡ r
take_run p r rest all stop = rw (prefix_run p r rest all stop) (take_at r rest (length r) refl)

-- bytes that a test tells apart
pub differs : (c d : ℕ) → (c == d) ≡ false → c ≢ d
differs c d e same = absurd (grind (arith, nat_tests))
