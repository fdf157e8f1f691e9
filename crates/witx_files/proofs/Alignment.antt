-- A number or a caret that is printed right-aligned stands behind blanks up to its width.
use Rattle.std.proofs.Common.{◌≡◌, ℕ, ◌-◌, ◌^◌, List, [], ◌∷◌, ◌++◌, Bool, true, false, refl, ap, ◌∙◌, length, append-nil, zero, suc, arith, ◌==◌, if◌then◌else◌}
use Rattle.std.proofs.lemmas.Bool.Decides.{nat_tests}
use Rattle.std.specs.Prelude.{replicate, ◌&&◌, min}
use Rattle.std.specs.List.{repeat}
use Rattle.std.specs.Fmt.{decimal, styled_decimal, padded, padded_integral, format_spec, char_count, take_chars, styled_text}
use lib.Utf8.{encode}
use Rattle.witx_files.specs.declared.location.TheConstants.{WIDEST}
use Rattle.witx_files.specs.LocatedTexts.{right_aligned, numbered_line, caret}

abbrev blank : List ℕ
blank = 32 ∷ []

blanks : (n : ℕ) → repeat n blank ≡ replicate n 32
blanks zero = refl
blanks (suc n) = ap (λ xs. 32 ∷ xs) (blanks n)

-- blanks before a text, and none behind it
behind-blanks : (n places : ℕ) (xs : List ℕ) → n ≡ places → repeat n blank ++ (xs ++ repeat (n - n) blank) ≡ replicate places 32 ++ xs
behind-blanks n places xs q = let e : n - n ≡ 0 = omega arith in rw (e, blanks n, ← q) (ap (λ ys. replicate n 32 ++ ys) (append-nil xs))

number-padded : (width : ℕ) (digits : List ℕ) → padded_integral (format_spec 32 3 0 width (2 ^ 64 - 1)) false [] digits ≡ right_aligned width digits
unfolding padded_integral char_count encode
number-padded width digits = simp append-nil (behind-blanks (width - length digits - 0 - 0) (width - length digits) digits (omega arith))

wide-caret : (width : ℕ) → padded (format_spec 32 3 0 width (2 ^ 64 - 1)) (94 ∷ []) ≡ right_aligned width (94 ∷ [])
unfolding padded char_count take_chars encode
wide-caret width = behind-blanks (width - 1) (width - 1) (94 ∷ []) refl

is-zero : (n : ℕ) → (n == 0) ≡ true → n ≡ 0
is-zero n e = grind (arith, nat_tests)

caret-by : (width : ℕ) (narrow : Bool) → (width == 0) ≡ narrow
    → (if narrow && true then 94 ∷ [] else padded (format_spec 32 3 0 width (2 ^ 64 - 1)) (94 ∷ [])) ≡ right_aligned width (94 ∷ [])
caret-by width true e = rw (is-zero width e) refl
caret-by width false e = wide-caret width

caret-padded : (width : ℕ) → styled_text (format_spec 32 3 0 width (2 ^ 64 - 1)) (94 ∷ []) ≡ right_aligned width (94 ∷ [])
caret-padded width = caret-by width (width == 0) refl

pub line-put : (options : _) (number : ℕ) (line before now : List ℕ) → options ≡ format_spec 32 3 0 5 (2 ^ 64 - 1)
    → now ≡ before ++ (styled_decimal options number ++ (32 ∷ 124 ∷ 32 ∷ (line ++ 10 ∷ []))) → now ≡ before ++ numbered_line number line
line-put options number line before now o e =
    e ∙ ap (λ digits. before ++ (digits ++ (32 ∷ 124 ∷ 32 ∷ (line ++ 10 ∷ [])))) (ap (λ s. styled_decimal s number) o ∙ number-padded 5 (decimal number))

pub caret-put : (options : _) (column width : ℕ) (before now : List ℕ) → width ≡ min column WIDEST → options ≡ format_spec 32 3 0 width (2 ^ 64 - 1)
    → now ≡ before ++ (32 ∷ 32 ∷ 32 ∷ 32 ∷ 32 ∷ 32 ∷ 32 ∷ 32 ∷ 32 ∷ styled_text options (94 ∷ [])) → now ≡ before ++ caret column
caret-put options column width before now w o e =
    e ∙ ap (λ mark. before ++ (replicate 9 32 ++ mark)) (ap (λ s. styled_text s (94 ∷ [])) o ∙ (caret-padded width ∙ ap (λ places. right_aligned places (94 ∷ [])) w))

pub ruleset alignment_rules = (line-put, caret-put)
