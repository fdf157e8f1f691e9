-- The number that the digits of a base among some bytes write, read from the left.
use Rattle.std.proofs.Common.{◌≡◌, ℕ, ◌+◌, ◌*◌, ◌^◌, ◌<◌, ◌≤◌, Bool, true, false, cond, List, length, get_or, drop, Some, None, refl, sym, ◌∙◌, subst, arith}
use Rattle.std.proofs.lemmas.Bool.Decides.{nat_tests}
use Rattle.std.specs.Prelude.{filter}
use Rattle.std.specs.Char.{is_digit, digit_value}
use Rattle.witx_lex.proofs.Scalars.{value_from, value_digit, value-le}
use Rattle.witx_language.specs.Integers.{small}

pub small_none : (n m : ℕ) → n ≤ m → None ≡ small n → None ≡ small m
small_none n m le e = grind (arith, nat_tests)

pub small_some : (n v : ℕ) → Some v ≡ small n → v ≡ n
small_some n v e = grind (arith, nat_tests)

pub small_low : (n v : ℕ) → Some v ≡ small n → v < 2 ^ 64
small_low n v e = grind (arith, nat_tests)

small_below : (v : ℕ) → v < 2 ^ 64 → Some v ≡ small v
small_below v low = grind (arith, nat_tests)

pub small_is : (v n : ℕ) → v ≡ n → v < 2 ^ 64 → Some v ≡ small n
small_is v n e low = subst (λ (m : ℕ). Some v ≡ small m) e (small_below v low)

-- a number that the digits so far write already is too large
pub too_large : (base : ℕ) (bytes : List ℕ) (i n v : ℕ) → 1 ≤ base → i < length bytes → digit_value (get_or bytes i 0) < base → value_from base n (drop i bytes) ≡ v
    → None ≡ small (n * base + digit_value (get_or bytes i 0)) → None ≡ small v
too_large base bytes i n v some lt digit e large =
    let more = n * base + digit_value (get_or bytes i 0) in
    let v-is : value_from base more (drop (i + 1) bytes) ≡ v = sym (value_digit base bytes i n lt digit) ∙ e in
    let rises : more ≤ value_from base more (drop (i + 1) bytes) = value-le base more (filter (λ b. is_digit b base) (drop (i + 1) bytes)) some in
    small_none more v (omega arith) large

pub small_either : (b : Bool) (m n : ℕ) → cond b (small m) (small n) ≡ small (cond b m n)
small_either true m n = refl
small_either false m n = refl
