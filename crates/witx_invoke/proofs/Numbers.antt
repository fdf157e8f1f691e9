-- From the text of a number the reader takes the number.
use Rattle.std.proofs.Common.{◌≡◌, ℕ, suc, ◌+◌, ◌-◌, ◌*◌, ◌^◌, ◌<◌, ◌≤◌, min, List, [], ◌∷◌, ◌++◌, Bool, true, false, cond, Some, None, pos, negsuc, refl, ap, ◌∙◌, arith, nat_eq, length}
use Rattle.std.specs.Prelude.{neg_ℤ}
use Rattle.std.specs.Char.{is_digit, digit_value}
use Rattle.std.specs.Fmt.{decimal}
use Rattle.std.specs.Str.Parse.{AllDigits, digits_value, digits_value_after}
use Rattle.std.proofs.lemmas.Bool.Decides.{nat_tests}
use Rattle.std.proofs.lemmas.Fmt.{decimal_is_IsNumeral}
use Rattle.witx_invoke.specs.Reading.{past, grown, digits_at, word_at, signed_behind, signed_at}

-- no digit stands at the head
abbrev pub Stops : List ℕ → Type 0
Stops [] = Unit {0}
Stops (c ∷ s) = is_digit c 10 ≡ false

-- more digits never make it smaller
value-rises : (n : ℕ) (ds : List ℕ) → n ≤ digits_value_after 10 n ds
value-rises n [] = omega arith
value-rises n (d ∷ ds) = omega (arith, value-rises (n * 10 + digit_value d) ds)

digit-is : (d : ℕ) → digit_value d < 10 → is_digit d 10 ≡ true
digit-is d l = grind (arith, nat_tests)

grown-is : (n d : ℕ) → n * 10 + d < 2 ^ 64 → grown n d ≡ n * 10 + d
grown-is n d l = omega arith

taken-digits : (n : ℕ) (ds rest : List ℕ) → AllDigits 10 ds → Stops rest → digits_value_after 10 n ds < 2 ^ 64 → digits_at n (ds ++ rest) ≡ (digits_value_after 10 n ds, rest)
taken-digits n [] [] a s l = refl
taken-digits n [] (c ∷ rest) a s l = ap (λ b. cond b (digits_at (grown n (digit_value c)) rest) (n, c ∷ rest)) s
taken-digits n (d ∷ ds) rest a s l =
    let low : n * 10 + digit_value d < 2 ^ 64 = omega (arith, l, value-rises (n * 10 + digit_value d) ds) in
    ap (λ b. cond b (digits_at (grown n (digit_value d)) (ds ++ rest)) (n, d ∷ (ds ++ rest))) (digit-is d a.0)
    ∙ ap (λ m. digits_at m (ds ++ rest)) (grown-is n (digit_value d) low)
    ∙ taken-digits (n * 10 + digit_value d) ds rest a.1 s l

pub decimal-taken : (n : ℕ) (rest : List ℕ) → n < 2 ^ 64 → Stops rest → digits_at 0 (decimal n ++ rest) ≡ (n, rest)
decimal-taken n rest l s =
    let d = decimal_is_IsNumeral n l in
    let small : digits_value 10 (decimal n) < 2 ^ 64 = omega (arith, d.1, l) in
    taken-digits 0 (decimal n) rest d.0.1 s small ∙ ap (λ m. (m, rest)) d.1

pub word-taken : (n : ℕ) (rest : List ℕ) → n < 2 ^ 32 → Stops rest → word_at (decimal n ++ rest) ≡ (n, rest)
word-taken n rest l s =
    let low : n < 2 ^ 64 = omega (arith, l) in
    let least : min n (2 ^ 32 - 1) ≡ n = omega (arith, l) in
    ap (λ p. (min p.0 (2 ^ 32 - 1), p.1)) (decimal-taken n rest low s) ∙ ap (λ m. (m, rest)) least

-- a number begins with a digit, and so not with `-`
no-minus : (ds rest : List ℕ) → 0 < length ds → AllDigits 10 ds → past 45 (ds ++ rest) ≡ None
no-minus [] rest some a = absurd (omega (arith, some))
no-minus (d ∷ ds) rest some a = go (nat_eq d 45) refl
  where
    go : (b : Bool) → nat_eq d 45 ≡ b → cond (nat_eq d 45) (Some (ds ++ rest)) None ≡ None
    go false e = ap (λ b. cond b (Some (ds ++ rest)) None) e
    go true e = absurd (minus d e a.0)
      where
        minus : (d : ℕ) → nat_eq d 45 ≡ true → digit_value d < 10 → ⊥
        minus d e l = grind (arith, nat_tests)

pub signed-taken : (n : ℕ) (rest : List ℕ) → n < 2 ^ 64 → Stops rest → signed_at (decimal n ++ rest) ≡ (pos n, rest)
signed-taken n rest l s =
    let d = decimal_is_IsNumeral n l in
    ap (λ o. signed_behind o (decimal n ++ rest)) (no-minus (decimal n) rest d.0.0 d.0.1)
    ∙ ap (λ p. (pos p.0, p.1)) (decimal-taken n rest l s)

pub negative-taken : (n : ℕ) (rest : List ℕ) → suc n < 2 ^ 64 → Stops rest → signed_at (45 ∷ (decimal (suc n) ++ rest)) ≡ (negsuc n, rest)
negative-taken n rest l s = ap (λ p. (neg_ℤ (pos p.0), p.1)) (decimal-taken (suc n) rest l s)
