-- The number that the digits of a base among some bytes write, read from the left. Once that of a character is too large it
-- stays so (`too_large`).
use Rattle.std.proofs.Common.{◌≡◌, ℕ, ◌+◌, ◌*◌, ◌<◌, ◌≤◌, Bool, true, false, List, [], ◌∷◌, length, get_or, drop, refl, sym, ap, subst, ◌∙◌, arith}
use Rattle.std.proofs.lemmas.Bool.Decides.{nat_tests}
use Rattle.std.proofs.lemmas.List.{drop_more}
use Rattle.std.specs.Prelude.{filter, IsTrue}
use Rattle.std.specs.Char.{is_digit, digit_value}
use Rattle.std.specs.Str.Parse.{digits_value_after}
use Rattle.witx_lex.specs.Characters.{is_unicode_scalar}

-- the number that the digits of the base from here on write behind those of a number
abbrev pub value_from : ℕ → ℕ → List ℕ → ℕ
value_from base n bytes = digits_value_after base n (filter (λ b. is_digit b base) bytes)

kept : (p : ℕ → Bool) (b : ℕ) (bs : List ℕ) → p b ≡ true → filter p (b ∷ bs) ≡ b ∷ filter p bs
kept p b bs e = rw e refl

skipped : (p : ℕ → Bool) (b : ℕ) (bs : List ℕ) → p b ≡ false → filter p (b ∷ bs) ≡ filter p bs
skipped p b bs e = rw e refl

pub value_digit : (base : ℕ) (bytes : List ℕ) (i n : ℕ) → i < length bytes → digit_value (get_or bytes i 0) < base
    → value_from base n (drop i bytes) ≡ value_from base (n * base + digit_value (get_or bytes i 0)) (drop (i + 1) bytes)
value_digit base bytes i n lt digit =
    let b = get_or bytes i 0 in
    let is : is_digit b base ≡ true = grind (arith, nat_tests) in
    ap (value_from base n) (drop_more bytes i 0 lt) ∙ ap (digits_value_after base n) (kept (λ b. is_digit b base) b (drop (i + 1) bytes) is)

value_other : (base : ℕ) (bytes : List ℕ) (i n : ℕ) → i < length bytes → (digit_value (get_or bytes i 0) < base → ⊥)
    → value_from base n (drop i bytes) ≡ value_from base n (drop (i + 1) bytes)
value_other base bytes i n lt none =
    let b = get_or bytes i 0 in
    let is : is_digit b base ≡ false = grind (arith, nat_tests) in
    ap (value_from base n) (drop_more bytes i 0 lt) ∙ ap (digits_value_after base n) (skipped (λ b. is_digit b base) b (drop (i + 1) bytes) is)

-- behind a digit the number so far is another, and behind another byte the same
pub past_digit : (base : ℕ) (bytes : List ℕ) (i n m v : ℕ) → i < length bytes → digit_value (get_or bytes i 0) < base → m ≡ n * base + digit_value (get_or bytes i 0)
    → value_from base n (drop i bytes) ≡ v → value_from base m (drop (i + 1) bytes) ≡ v
past_digit base bytes i n m v lt digit m-is e = ap (λ (k : ℕ). value_from base k (drop (i + 1) bytes)) m-is ∙ sym (value_digit base bytes i n lt digit) ∙ e

pub past_other : (base : ℕ) (bytes : List ℕ) (i n m v b : ℕ) → b ≡ get_or bytes i 0 → i < length bytes → (digit_value b < base → ⊥) → m ≡ n
    → value_from base n (drop i bytes) ≡ v → value_from base m (drop (i + 1) bytes) ≡ v
past_other base bytes i n m v b byte lt none m-is e =
    ap (λ (k : ℕ). value_from base k (drop (i + 1) bytes)) m-is ∙ sym (value_other base bytes i n lt (subst (λ (k : ℕ). digit_value k < base → ⊥) byte none)) ∙ e

grown : (n base d : ℕ) → 1 ≤ base → n ≤ n * base + d
grown n base d lt = grind arith

-- more digits never make it smaller
pub value-le : (base n : ℕ) (ds : List ℕ) → 1 ≤ base → n ≤ digits_value_after base n ds
value-le base n [] lt = omega arith
value-le base n (d ∷ ds) lt = omega (arith, value-le base (n * base + digit_value d) ds lt, grown n base (digit_value d) lt)

not_scalar : (v : ℕ) → 0x10_FFFF < v → IsTrue (is_unicode_scalar v) → ⊥
not_scalar v lt is = grind (arith, nat_tests)

-- a number that the digits so far write already is too large
pub too_large : (bytes : List ℕ) (i n v : ℕ) → i < length bytes → digit_value (get_or bytes i 0) < 16 → value_from 16 n (drop i bytes) ≡ v
    → 0x10_FFFF < n * 16 + digit_value (get_or bytes i 0) → IsTrue (is_unicode_scalar v) → ⊥
too_large bytes i n v lt digit e large is =
    let more = n * 16 + digit_value (get_or bytes i 0) in
    let v-is : value_from 16 more (drop (i + 1) bytes) ≡ v = sym (value_digit 16 bytes i n lt digit) ∙ e in
    let rises : more ≤ value_from 16 more (drop (i + 1) bytes) = value-le 16 more (filter (λ b. is_digit b 16) (drop (i + 1) bytes)) (omega arith) in
    not_scalar v (omega arith) is
