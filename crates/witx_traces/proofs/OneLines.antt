-- Texts without a line feed.
use Rattle.std.proofs.Common.{◌≡◌, ℕ, ◌+◌, ◌/◌, ◌%◌, ◌≤◌, List, [], ◌∷◌, ◌++◌, Bool, true, false, refl, ap, ◌∙◌, arith, ◌==◌, if◌then◌else◌, cond}
use Rattle.std.specs.Prelude.{◌||◌, nat_lt, encode_utf8, codes}
use Rattle.std.specs.List.{flat_map}
use Rattle.std.specs.Str.{chars}
use Rattle.std.specs.Fmt.{decimal}
use Rattle.std.specs.Str.Parse.{AllDigits}
use Rattle.std.proofs.lemmas.Bool.{ne_eqb}
use Rattle.std.proofs.lemmas.Bool.Decides.{nat_tests}
use Rattle.std.proofs.lemmas.Fmt.{decimal_is_IsNumeral}
use Rattle.std.proofs.lemmas.Str.Parse.{digit_from_value}
use lib.Utf8.{encode}
use Rattle.witx_ast.specs.TypeNames.{comma_joined}
use Rattle.witx_adapt.specs.Names.{digit, escaped, in_quotes}
use Rattle.witx_traces.specs.Traces.{IsWord, one_line}

-- each text is one line
abbrev pub EachOneLine : List (List ℕ) → Type 0
EachOneLine [] = Unit {0}
EachOneLine (n ∷ ns) = (one_line n ≡ true) × EachOneLine ns

pub one-and : (b : ℕ) (bs : List ℕ) → (b ≡ 10 → ⊥) → one_line bs ≡ true → one_line (b ∷ bs) ≡ true
one-and b bs f e = ap (λ t. if t then false else one_line bs) (ne_eqb b 10 f) ∙ e

head-none : (t rest : Bool) → (if t then false else rest) ≡ true → t ≡ false
head-none true rest e = absurd (cc)
head-none false rest e = refl

both-lines : (t x y : Bool) → (x ≡ true → y ≡ true) → (if t then false else x) ≡ true → (if t then false else y) ≡ true
both-lines true x y f e = absurd (cc)
both-lines false x y f e = f e

pub one-append : (xs ys : List ℕ) → one_line xs ≡ true → one_line ys ≡ true → one_line (xs ++ ys) ≡ true
one-append [] ys e f = f
one-append (x ∷ xs) ys e f = both-lines (x == 10) (one_line xs) (one_line (xs ++ ys)) (λ h. one-append xs ys h f) e

-- ---- numbers

digits-one : (ds : List ℕ) → AllDigits 10 ds → one_line ds ≡ true
digits-one [] h = refl
digits-one (d ∷ ds) h =
    let low = (digit_from_value d h.0).0 in
    one-and d ds (λ e. omega (arith, low, e)) (digits-one ds h.1)

pub number-one : (n : ℕ) → IsWord n → one_line (decimal n) ≡ true
number-one n small = digits-one (decimal n) (decimal_is_IsNumeral n small).0.1

-- ---- quoted names

large-one : (b : ℕ) (bs : List ℕ) → 11 ≤ b → one_line bs ≡ true → one_line (b ∷ bs) ≡ true
large-one b bs l e = one-and b bs (λ h. omega (arith, l, h)) e

-- a leading byte, and one that follows
high-one : (k d : ℕ) (bs : List ℕ) → one_line bs ≡ true → one_line ((128 + k + d) ∷ bs) ≡ true
high-one k d bs e = large-one (128 + k + d) bs (omega arith) e

next-one : (c : ℕ) (bs : List ℕ) → one_line bs ≡ true → one_line ((128 + c % 64) ∷ bs) ≡ true
next-one c bs e = large-one (128 + c % 64) bs (omega arith) e

abbrev Followed : Type 0
Followed = (bs : List ℕ) × (one_line bs ≡ true)

abbrev last-one : (c : ℕ) → Followed
last-one c = ((128 + c % 64) ∷ [], next-one c [] refl)

abbrev two-one : (c : ℕ) → Followed
two-one c = ((128 + c / 64 % 64) ∷ (last-one c).0, next-one (c / 64) (last-one c).0 (last-one c).1)

abbrev three-one : (c : ℕ) → Followed
three-one c = ((128 + c / 4096 % 64) ∷ (two-one c).0, next-one (c / 4096) (two-one c).0 (two-one c).1)

spelled-by : (c : ℕ) (x y z : Bool) → 32 ≤ c → one_line (cond x (c ∷ []) (cond y ((192 + c / 64) ∷ (128 + c % 64) ∷ []) (cond z ((224 + c / 4096) ∷ (128 + c / 64 % 64) ∷ (128 + c % 64) ∷ []) ((240 + c / 262144) ∷ (128 + c / 4096 % 64) ∷ (128 + c / 64 % 64) ∷ (128 + c % 64) ∷ [])))) ≡ true
spelled-by c true y z l = large-one c [] (omega (arith, l)) refl
spelled-by c false true z l = high-one 64 (c / 64) (last-one c).0 (last-one c).1
spelled-by c false false true l = high-one 96 (c / 4096) (two-one c).0 (two-one c).1
spelled-by c false false false l = high-one 112 (c / 262144) (three-one c).0 (three-one c).1

spelled-one : (c : ℕ) → 32 ≤ c → one_line (encode_utf8 c) ≡ true
unfolding encode
spelled-one c l = spelled-by c (nat_lt c 128) (nat_lt c 2048) (nat_lt c 65536) l

digit-by : (k : ℕ) (t : Bool) → 11 ≤ (if t then 48 + k else 87 + k)
digit-by k true = omega arith
digit-by k false = omega arith

not-control : (c : ℕ) (t : Bool) → nat_lt c 32 || t ≡ false → 32 ≤ c
not-control c t e = grind (arith, nat_tests)

mark-large : (c : ℕ) → c == 34 || c == 92 ≡ true → 32 ≤ c
mark-large c e = grind (arith, nat_tests)

escaped-by : (c : ℕ) (m k : Bool) → (m ≡ true → 32 ≤ c) → (k ≡ false → 32 ≤ c) → one_line (if m then 92 ∷ encode_utf8 c else (if k then 92 ∷ digit (c / 16) ∷ digit (c % 16) ∷ [] else encode_utf8 c)) ≡ true
escaped-by c true k f g = large-one 92 (encode_utf8 c) (omega arith) (spelled-one c (f refl))
escaped-by c false true f g =
    large-one 92 (digit (c / 16) ∷ digit (c % 16) ∷ []) (omega arith)
    (large-one (digit (c / 16)) (digit (c % 16) ∷ []) (digit-by (c / 16) (nat_lt (c / 16) 10)) (large-one (digit (c % 16)) [] (digit-by (c % 16) (nat_lt (c % 16) 10)) refl))
escaped-by c false false f g = spelled-one c (g refl)

escaped-one : (c : ℕ) → one_line (escaped c) ≡ true
escaped-one c = escaped-by c (c == 34 || c == 92) (nat_lt c 32 || c == 127) (mark-large c) (not-control c (c == 127))

all-escaped-one : (cs : List ℕ) → one_line (flat_map escaped cs) ≡ true
all-escaped-one [] = refl
all-escaped-one (c ∷ cs) = one-append (escaped c) (flat_map escaped cs) (escaped-one c) (all-escaped-one cs)

pub quoted-one : (name : List ℕ) → one_line (in_quotes name) ≡ true
quoted-one name = one-append (flat_map escaped (chars name)) (codes "\"") (all-escaped-one (chars name)) refl

-- ---- texts with commas

pub joined-one : (ns : List (List ℕ)) → EachOneLine ns → one_line (comma_joined ns) ≡ true
joined-one [] h = refl
joined-one (n ∷ []) h = h.0
joined-one (n ∷ m ∷ ns) h = one-append n (codes ", " ++ comma_joined (m ∷ ns)) h.0 (joined-one (m ∷ ns) h.1)
