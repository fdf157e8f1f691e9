-- What stands at the head of a text.
use Rattle.std.proofs.Common.{◌≡◌, ℕ, zero, suc, ◌+◌, ◌-◌, ◌*◌, ◌^◌, ◌<◌, min, List, ◌∷◌, true, false, cond, Some, None, refl, ap, arith}
use Rattle.std.specs.Char.{is_digit, digit_value}
use Rattle.std.proofs.lemmas.Bool.Decides.{nat_tests}
use Rattle.witx_invoke.specs.Reading.{past, digits_at, grown, item_past, flag_at}

-- the byte stands there, or another one
pub after_it : (b c : ℕ) (s : List ℕ) → c ≡ b → past b (c ∷ s) ≡ Some s
after_it b c s e = grind (arith, nat_tests)

pub after_other : (b c : ℕ) (s : List ℕ) → (c ≡ b → ⊥) → past b (c ∷ s) ≡ None
after_other b c s n = grind (arith, nat_tests)

pub item_behind : (i : ℕ) (s : List ℕ) → (i ≡ 0 → ⊥) → item_past i s ≡ past 32 s
item_behind zero s n = absurd (n refl)
item_behind (suc i) s n = refl

-- a digit, or none
pub digit_there : (n c : ℕ) (s : List ℕ) → digit_value c < 10 → digits_at n (c ∷ s) ≡ digits_at (grown n (digit_value c)) s
digit_there n c s l = ap (λ b. cond b (digits_at (grown n (digit_value c)) s) (n, c ∷ s)) (test c l)
  where
    test : (c : ℕ) → digit_value c < 10 → is_digit c 10 ≡ true
    test c l = grind (arith, nat_tests)

pub no_digit : (n c : ℕ) (s : List ℕ) → (digit_value c < 10 → ⊥) → digits_at n (c ∷ s) ≡ (n, c ∷ s)
no_digit n c s l = ap (λ b. cond b (digits_at (grown n (digit_value c)) s) (n, c ∷ s)) (test c l)
  where
    test : (c : ℕ) → (digit_value c < 10 → ⊥) → is_digit c 10 ≡ false
    test c l = grind (arith, nat_tests)

pub grown_twice : (n d : ℕ) → min (min (n * 10) (2 ^ 64 - 1) + d) (2 ^ 64 - 1) ≡ grown n d
grown_twice n d = omega arith

-- another byte than `0` and `1` is no flag
pub no_flag : (c : ℕ) (s : List ℕ) → (c ≡ 48 → ⊥) → (c ≡ 49 → ⊥) → flag_at (c ∷ s) ≡ None
no_flag c s n m = grind (arith, nat_tests)

pub ruleset head_rules = (after_it, after_other, item_behind, digit_there, no_digit, grown_twice, no_flag)
