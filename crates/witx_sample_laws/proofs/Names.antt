-- The names of a sample: their bytes, and that different numbers make different names.
use Rattle.std.proofs.Common.{◌≡◌, ℕ, zero, suc, ◌+◌, ◌^◌, ◌<◌, ◌≤◌, Bool, true, false, ◌==◌, List, [], ◌∷◌, refl, sym, subst, arith, codes, IsUtf8, IsAscii}
use Rattle.std.specs.Fmt.{decimal}
use Rattle.std.specs.List.{list_all, range_with_len}
use Rattle.std.specs.Str.Parse.{AllDigits}
use Rattle.std.proofs.lemmas.Bool.{and_from, and_parts, eqb-true, eqb-false}
use Rattle.std.proofs.lemmas.Fmt.{decimal_is_IsNumeral, decimal_injective, IsAscii-decimal}
use Rattle.std.proofs.lemmas.Str.{IsUtf8-from_ascii, IsUtf8-append}
use Rattle.std.proofs.lemmas.Str.Parse.{digit_from_value}
use Rattle.witx_lex.specs.Characters.{is_name_character, is_raw, dollar}
use Rattle.witx_read_back.proofs.Orders.{same, same_is}
use Rattle.witx_read_back.proofs.Readable.{IsRun}
use Rattle.witx_sample_laws.proofs.Documents.{record_name, variant_name, function_name}

-- ---- what holds of the ten digits holds of each byte of a number

in_range_by : (p : ℕ → Bool) (a c : ℕ) (t : Bool) → (c == a) ≡ t → p a ≡ true → ((c ≡ a → ⊥) → p c ≡ true) → p c ≡ true
in_range_by p a c true e x h = subst (λ (k : ℕ). p k ≡ true) (sym (eqb-true c a e)) x
in_range_by p a c false e x h = h (eqb-false c a e)

in_range : (p : ℕ → Bool) (a n c : ℕ) → a ≤ c → c < a + n → list_all p (range_with_len a n) ≡ true → p c ≡ true
in_range p a zero c l u h = absurd (omega (arith, l, u))
in_range p a (suc n) c l u h =
    let q = and_parts (p a) (list_all p (range_with_len (a + 1) n)) h in
    in_range_by p a c (c == a) refl q.0 (λ d. in_range p (a + 1) n c (omega (arith, l, d)) (omega (arith, u)) q.1)

by_digits : (p : ℕ → Bool) → list_all p (range_with_len 48 10) ≡ true → (ds : List ℕ) → AllDigits 10 ds → list_all p ds ≡ true
by_digits p h [] d = refl
by_digits p h (c ∷ cs) d =
    let r = digit_from_value c d.0 in
    and_from (p c) (list_all p cs) (in_range p 48 10 c r.0 (omega (arith, r.1)) h) (by_digits p h cs d.1)

-- a test that the ten digits pass
pub number_passes : (p : ℕ → Bool) → list_all p (range_with_len 48 10) ≡ true → (i : ℕ) → i < 2 ^ 64 → list_all p (decimal i) ≡ true
number_passes p h i l = by_digits p h (decimal i) (decimal_is_IsNumeral i l).0.1

-- ---- runs

two_or_more : (b c : ℕ) (s : List ℕ) → b ∷ c ∷ s ≡ [] → ⊥
two_or_more b c s e = cc

not_one : (b c d : ℕ) (s : List ℕ) → b ∷ c ∷ s ≡ d ∷ [] → ⊥
not_one b c d s e = cc

-- two bytes or more that may stand in a name
pub run_of : (b c : ℕ) (s : List ℕ) → list_all is_name_character (b ∷ c ∷ s) ≡ true → IsRun (b ∷ c ∷ s)
run_of b c s e = (two_or_more b c s, e, not_one b c dollar s)

pub record_run : (i : ℕ) → i < 2 ^ 64 → IsRun (36 ∷ record_name i)
record_run i l = run_of 36 114 (decimal i) (number_passes is_name_character refl i l)

pub variant_run : (i : ℕ) → i < 2 ^ 64 → IsRun (36 ∷ variant_name i)
variant_run i l = run_of 36 118 (decimal i) (number_passes is_name_character refl i l)

pub function_raw : (i : ℕ) → i < 2 ^ 64 → list_all is_raw (function_name i) ≡ true
function_raw i l = number_passes is_raw refl i l

pub function_utf8 : (i : ℕ) → i < 2 ^ 64 → IsUtf8 (function_name i)
function_utf8 i l = IsUtf8-append (codes "f") (decimal i) (IsUtf8-from_ascii (codes "f") (IsAscii-f)) (IsUtf8-from_ascii (decimal i) (IsAscii-decimal i l))
  where
    IsAscii-f : IsAscii (codes "f")
    IsAscii-f zero = omega arith
    IsAscii-f (suc k) = omega arith

-- ---- different numbers

false_or : (t : Bool) → (t ≡ true → ⊥) → t ≡ false
false_or true h = absurd (h refl)
false_or false h = refl

pub numbers_differ : (i j : ℕ) → i < 2 ^ 64 → j < 2 ^ 64 → (i ≡ j → ⊥) → same (decimal i) (decimal j) ≡ false
numbers_differ i j l m n = false_or (same (decimal i) (decimal j)) (λ e. n (decimal_injective i j l m (same_is (decimal i) (decimal j) e)))
