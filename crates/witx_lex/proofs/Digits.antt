-- Digits as they are read from left to right: `digits_same`; and no integer by its first byte: `not_int`.
use Rattle.std.proofs.Common.{◌≡◌, ℕ, Bool, true, false, ◌&&◌, ◌||◌, ◌==◌, ◌<◌, List, [], ◌∷◌, get_or, refl, sym, ap, ◌∙◌, inl, inr, arith}
use Rattle.std.proofs.lemmas.Bool.{cases_lt, le-ltb}
use Rattle.std.proofs.lemmas.Bool.Decides.{nat_tests}
use Rattle.std.proofs.lemmas.Str.Parse.{digit_from_value}
use Rattle.std.specs.Char.{is_digit, digit_value}
use Rattle.witx_lex.specs.Characters.{underscore, are_digits}
use Rattle.witx_lex.specs.Meaning.{is_int}

-- the digits to come, behind a digit or not
abbrev pub digits_follow : ℕ → Bool → List ℕ → Bool
digits_follow base behind_digit [] = behind_digit
digits_follow base behind_digit (b ∷ bs) =
    (is_digit b base && digits_follow base true bs) || ((b == underscore && behind_digit) && digits_follow base false bs)

only_digit : (x y u z : Bool) → (x && y) ≡ ((x && y) || ((u && false) && z))
only_digit true true u z = refl
only_digit true false true z = refl
only_digit true false false z = refl
only_digit false y true z = refl
only_digit false y false z = refl

behind_one : (x y z u v : Bool) → (x && ((y && z) || (u && v))) ≡ (x && ((y && z) || ((u && true) && v)))
behind_one false y z u v = refl
behind_one true y z true v = refl
behind_one true y z false v = refl

one_alone : (x : Bool) → x ≡ (x && true)
one_alone true = refl
one_alone false = refl

-- at the start no digit stands before
first : (base b : ℕ) (bs : List ℕ) → (is_digit b base && digits_follow base true bs) ≡ digits_follow base false (b ∷ bs)
first base b bs = only_digit (is_digit b base) (digits_follow base true bs) (b == underscore) (digits_follow base false bs)

pub digits_same : (base : ℕ) (bs : List ℕ) → are_digits base bs ≡ digits_follow base false bs
digits_same base [] = refl
digits_same base (b ∷ []) = one_alone (is_digit b base) ∙ first base b []
digits_same base (b ∷ c ∷ bs) =
    let next : are_digits base (c ∷ bs) ≡ (is_digit c base && digits_follow base true bs) = digits_same base (c ∷ bs) ∙ sym (first base c bs) in
    ap (λ (x : Bool). is_digit b base && (x || (c == underscore && are_digits base bs))) next
    ∙ ap (λ (x : Bool). is_digit b base && ((is_digit c base && digits_follow base true bs) || (c == underscore && x))) (digits_same base bs)
    ∙ behind_one (is_digit b base) (is_digit c base) (digits_follow base true bs) (c == underscore) (digits_follow base false bs)
    ∙ first base b (c ∷ bs)

-- what begins with a byte behind the digits is no integer
no_digit : (b : ℕ) → 57 < b → is_digit b 10 ≡ false
no_digit b h = elim (cases_lt (digit_value b) 10) [ inl low ↦ absurd (omega (arith, digit_from_value b low)) | inr high ↦ le-ltb _ _ high ]

pub not_int : (r : List ℕ) → 57 < get_or r 0 0 → is_int r ≡ false
not_int [] h = absurd (omega arith)
not_int (b ∷ []) h =
    let d = no_digit b h in
    let p : (b == 43) ≡ false = grind (arith, nat_tests) in
    let z : (b == 48) ≡ false = grind (arith, nat_tests) in
    rw (p, d, z) refl
not_int (b ∷ c ∷ bs) h =
    let d = no_digit b h in
    let p : (b == 43) ≡ false = grind (arith, nat_tests) in
    let z : (b == 48) ≡ false = grind (arith, nat_tests) in
    rw (p, d, z) refl
