-- A word is the printed number of a sample exactly where it begins with a digit other than 0, is read as a number, and that
-- number is small enough.
use Rattle.std.proofs.Common.{◌≡◌, ℕ, zero, suc, ◌^◌, ◌<◌, ◌≤◌, Bool, true, false, List, sym, ap, ◌∙◌, subst, refl, Some, None, Ok, Err, arith, if◌then◌else◌}
use Rattle.std.specs.Prelude.{slice_index}
use Rattle.std.specs.Int.{IsInRange}
use Rattle.std.specs.Fmt.{decimal, digits}
use Rattle.std.specs.Str.Parse.{AllDigits, IsNumeral, ParsesUnsigned, digits_value, without_leading_plus}
use Rattle.std.proofs.lemmas.Bool.{and_from, and_parts, le-leb, leb-true}
use Rattle.std.proofs.lemmas.Fmt.{decimal-digits_value, decimal_is_IsNumeral, first_decimal, parse-decimal}
use Rattle.std.proofs.lemmas.Str.Parse.{IsNumeralModel, digit_at, numerals_by_value, tells_digits, without_leading_plus_none}
use Rattle.witx_base.proofs.Names.{same-equal}
use Rattle.witx_sample.specs.declared.sample.TheConstants.{LARGEST_SAMPLE}
use Rattle.witx_commands.specs.Words.{is_printed_size, sample_size}

-- what a test decides
yes-when : (t : Bool) (n : ℕ) → t ≡ true → Some n ≡ (if t then Some n else None)
yes-when true n e = refl
yes-when false n e = absurd (cc)

no-when : (t : Bool) (n : ℕ) → (t ≡ true → ⊥) → None ≡ (if t then Some n else None)
no-when true n e = absurd (e refl)
no-when false n e = refl

-- what a printed size is
pub record Printed (word : List ℕ) : Type 0 where
  pub least : 1 ≤ digits_value 10 word
  pub most : digits_value 10 word ≤ LARGEST_SAMPLE
  pub same : word ≡ decimal (digits_value 10 word)

pub printed-parts : (word : List ℕ) → is_printed_size word ≡ true → Printed word
printed-parts word h =
    let p = and_parts _ _ h in
    let q = and_parts _ _ p.0 in
    record { least = leb-true _ _ q.0; most = leb-true _ _ q.1; same = (same-equal word (decimal (digits_value 10 word))).0 p.1 }

printed-whole : (word : List ℕ) → 1 ≤ digits_value 10 word → digits_value 10 word ≤ LARGEST_SAMPLE → word ≡ decimal (digits_value 10 word) → is_printed_size word ≡ true
printed-whole word l m s = and_from _ _ (and_from _ _ (le-leb _ _ l) (le-leb _ _ m)) ((same-equal word (decimal (digits_value 10 word))).1 s)

-- a printed number from 1 on begins with a digit other than 0
first-digit : (n : ℕ) → 1 ≤ n → n < 2 ^ 64 → IsInRange 49 57 (slice_index (decimal n) 0)
first-digit n l h =
    let own = decimal_is_IsNumeral n h in
    let digit = digit_at (decimal n) 0 own.0.1 own.0.0 in
    let first = first_decimal n (omega (arith, l)) h in
    (omega (arith, first), digit.1)

pub other-first : (word : List ℕ) → (IsInRange 49 57 (slice_index word 0) → ⊥) → None ≡ sample_size word
other-first word h = no-when (is_printed_size word) _ (λ t.
    let p = printed-parts word t in
    let small : digits_value 10 word < 2 ^ 64 = let m = p.most in omega (arith, m) in
    h (subst (λ w. IsInRange 49 57 (slice_index w 0)) (sym p.same) (first-digit (digits_value 10 word) p.least small)))

pub unread-word : {E : Type 0} (word : List ℕ) (e : E) → ParsesUnsigned 64 10 word (Err e) → None ≡ sample_size word
unread-word {E} word e h = no-when (is_printed_size word) _ (λ t.
    let p = printed-parts word t in
    let small : digits_value 10 word < 2 ^ 64 = let m = p.most in omega (arith, m) in
    let read : Err e ≡ Ok (digits_value 10 word) = parse-decimal {E = E} 64 (digits_value 10 word) word (Err e) small small p.same h in
    cc)

-- what reading a number off a word says, where it is read
abbrev ReadAs : List ℕ → ℕ → Type 0
ReadAs word n =
    (IsNumeral 10 (without_leading_plus word) × (digits_value 10 (without_leading_plus word) < 2 ^ 64)) × (n ≡ digits_value 10 (without_leading_plus word))

-- a number that is read behind such a first digit is that of the digits
read-number : (word : List ℕ) (n : ℕ) → IsInRange 49 57 (slice_index word 0) → ReadAs word n → IsNumeral 10 word × (digits_value 10 word < 2 ^ 64) × (n ≡ digits_value 10 word)
read-number word n first h =
    let plain : without_leading_plus word ≡ word = without_leading_plus_none word (λ plus. omega (arith, first.0, first.1, plus)) in
    subst (λ w. IsNumeral 10 w × (digits_value 10 w < 2 ^ 64) × (n ≡ digits_value 10 w)) plain (h.0.0, h.0.1, h.1)

own : IsNumeralModel (AllDigits 10) (digits_value 10)
own = numerals_by_value (AllDigits 10) tells_digits

printed-again : (word : List ℕ) → IsInRange 49 57 (slice_index word 0) → IsNumeral 10 word → digits_value 10 word < 2 ^ 64 → word ≡ decimal (digits_value 10 word)
printed-again word first numeral small = sym (decimal-digits_value own word numeral.1 numeral.0 (λ zero. absurd (omega (arith, first.0, zero))) small)

zero-glyph : slice_index (decimal 0) 0 ≡ 48
unfolding digits
zero-glyph = refl

-- no number that begins so is 0
not-zero : (word : List ℕ) → IsInRange 49 57 (slice_index word 0) → word ≡ decimal (digits_value 10 word) → 1 ≤ digits_value 10 word
not-zero word first same = positive (digits_value 10 word) refl
  where
    positive : (v : ℕ) → v ≡ digits_value 10 word → 1 ≤ v
    positive zero e =
        let z : slice_index word 0 ≡ slice_index (decimal 0) 0 = ap (λ w. slice_index w 0) (same ∙ ap decimal (sym e)) in
        absurd (omega (arith, first.0, z, zero-glyph))
    positive (suc v) e = omega arith

pub read-sample : (word : List ℕ) (n : ℕ) → IsInRange 49 57 (slice_index word 0) → ReadAs word n → n ≤ LARGEST_SAMPLE → Some n ≡ sample_size word
read-sample word n first h most =
    let r = read-number word n first h in
    let same = printed-again word first r.0 r.1 in
    let n-is = r.2 in
    ap Some n-is ∙ yes-when (is_printed_size word) (digits_value 10 word) (printed-whole word (not-zero word first same) (omega (arith, most, n-is)) same)

pub large-number : (word : List ℕ) (n : ℕ) → IsInRange 49 57 (slice_index word 0) → ReadAs word n → LARGEST_SAMPLE < n → None ≡ sample_size word
large-number word n first h more = no-when (is_printed_size word) _ (λ t.
    let p = printed-parts word t in
    let n-is = (read-number word n first h).2 in
    let m = p.most in
    absurd (omega (arith, more, n-is, m)))

pub ruleset word_rules = (other-first, large-number)
