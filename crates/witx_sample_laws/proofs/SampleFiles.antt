-- The bytes of a sample are a bundle of one file: what stands behind its header, in which each byte is ASCII and none is a `;`.
use Rattle.std.proofs.Common.{◌≡◌, ℕ, zero, suc, ◌+◌, ◌^◌, ◌<◌, ◌≤◌, Bool, true, false, not, ◌&&◌, ◌==◌, cond, nat_eq, nat_lt, nat_le, if◌then◌else◌, List, [], ◌∷◌, ◌++◌, length, take, take_while, reverse, Option, Some, None, Ok, refl, sym, ap, subst, IsAscii, IsUtf8, ◌∙◌, arith, codes, decimal, flat_map}
use Rattle.std.specs.List.{list_all, list_any, range_with_len, onto_first, join_with_byte}
use Rattle.std.specs.Cmp.Lexicographic.{pointwise}
use Rattle.std.proofs.lemmas.Bool.{and_from, and_parts, leb-false, leb-true, ltb-true}
use Rattle.std.proofs.lemmas.List.Folds.{list_all-append}
use Rattle.std.proofs.lemmas.List.Splits.{join_with_byte-slice_split}
use Rattle.std.proofs.lemmas.Str.{IsUtf8-append, IsUtf8-from_ascii}
use Rattle.witx_base.specs.Paths.{Path, path_of}
use Rattle.witx_files.specs.Files.{Files, text_in}
use Rattle.witx_bundle.specs.Bundles.{IsRead, limit, lines_of, stray, is_header, ended_lines, text_before, header_path, given, told_at}
use Rattle.witx_bundle.specs.declared.error.BundleError.TheVariants as bundle
use Rattle.witx_sample.proofs.SampleBundles.{only-memory}
use Rattle.witx_sample.specs.Samples.{sample_path, each_below, header_line, enum_line, record_line, variant_head, record_case, list_case, variant_line, func_head, func_params, func_result, sample_func_line, type_lines, sample_types_text, sample_module_text, sample_text}
use Rattle.witx_read_back.proofs.Orders.{or_parts, or_none}
use Rattle.witx_sample_laws.proofs.Names.{number_passes}

-- what stands behind the header
abbrev pub body : ℕ → List ℕ
body n = enum_line ++ (each_below type_lines n ++ sample_module_text n)

pub sample_is : (n : ℕ) → sample_text n ≡ header_line ++ body n
unfolding sample_text sample_types_text
sample_is n = refl

-- ---- each byte of it is ASCII, and none is a `;`

abbrev plain_byte : ℕ → Bool
plain_byte b = not (nat_eq 59 b) && nat_lt b 128

both : (xs ys : List ℕ) → list_all plain_byte xs ≡ true → list_all plain_byte ys ≡ true → list_all plain_byte (xs ++ ys) ≡ true
both xs ys h k = list_all-append plain_byte xs ys ∙ and_from (list_all plain_byte xs) (list_all plain_byte ys) h k

number : (i : ℕ) → i < 2 ^ 64 → list_all plain_byte (decimal i) ≡ true
number i l = number_passes plain_byte refl i l

around : (a b : List ℕ) (i : ℕ) → i < 2 ^ 64 → list_all plain_byte a ≡ true → list_all plain_byte b ≡ true → list_all plain_byte ((a ++ decimal i) ++ b) ≡ true
around a b i l h k = both (a ++ decimal i) b (both a (decimal i) h (number i l)) k

types_clean : (i : ℕ) → i < 2 ^ 64 → list_all plain_byte (type_lines i) ≡ true
unfolding type_lines record_line variant_line variant_head record_case list_case
types_clean i l =
    both (record_line i) (variant_line i) (around (codes "(typename $r") (codes " (record (field $a u32) (field $b $e) (field $c u64)))\n") i l refl refl)
    (both (variant_head i) (record_case i ++ list_case i) (around (codes "(typename $v") (codes " (variant (@witx tag u8)") i l refl refl)
    (both (record_case i) (list_case i) (around (codes " (case $x $r") (codes ")") i l refl refl) (around (codes " (case $y (list $r") (codes ")) (case $z)))\n") i l refl refl)))

func_clean : (i : ℕ) → i < 2 ^ 64 → list_all plain_byte (sample_func_line i) ≡ true
unfolding sample_func_line func_head func_params func_result
func_clean i l =
    both (func_head i) (func_params i ++ func_result i) (around (codes "(@interface func (export \"f") (codes "\")") i l refl refl)
    (both (func_params i) (func_result i) (around (codes " (param $p $v") (codes ") (param $q string)") i l refl refl)
    (around (codes " (result $s (expected (tuple $r") (codes " $e) (error $e))))\n") i l refl refl))

each_clean : (f : ℕ → List ℕ) → ((i : ℕ) → i < 2 ^ 64 → list_all plain_byte (f i) ≡ true) → (a n : ℕ) → a + n ≤ 2 ^ 64 → list_all plain_byte (flat_map f (range_with_len a n)) ≡ true
each_clean f h a zero l = refl
each_clean f h a (suc n) l = both (f a) (flat_map f (range_with_len (a + 1) n)) (h a (omega (arith, l))) (each_clean f h (a + 1) n (omega (arith, l)))

body_clean : (n : ℕ) → n ≤ 4096 → list_all plain_byte (body n) ≡ true
unfolding sample_module_text
body_clean n l =
    both enum_line (each_below type_lines n ++ sample_module_text n) refl
    (both (each_below type_lines n) (sample_module_text n) (each_clean type_lines types_clean 0 n (omega (arith, l)))
    (both (codes "(module $m\n") (each_below sample_func_line n ++ codes ")\n") refl (both (each_below sample_func_line n) (codes ")\n") (each_clean sample_func_line func_clean 0 n (omega (arith, l))) refl)))

-- ---- so none of its lines is a header

not_true : (b : Bool) → not b ≡ true → b ≡ false
not_true true e = absurd (cc)
not_true false e = refl

no_header_first : (x : ℕ) (l : List ℕ) → nat_eq 59 x ≡ false → is_header (x ∷ l) ≡ false
no_header_first x l e = ap (λ (b : Bool). b && pointwise nat_eq (codes ";;; file ") (take 9 l)) e

onto_none : (x : ℕ) (ls : List (List ℕ)) → nat_eq 59 x ≡ false → list_any is_header ls ≡ false → list_any is_header (onto_first x ls) ≡ false
onto_none x [] e h = or_none (is_header (x ∷ [])) false (no_header_first x [] e) refl
onto_none x (l ∷ ls) e h = or_none (is_header (x ∷ l)) (list_any is_header ls) (no_header_first x l e) (or_parts (is_header l) (list_any is_header ls) h).1

cut_none : (t : Bool) (x : ℕ) (ls : List (List ℕ)) → nat_eq 59 x ≡ false → list_any is_header ls ≡ false → list_any is_header (cond t ([] ∷ ls) (onto_first x ls)) ≡ false
cut_none true x ls e h = h
cut_none false x ls e h = onto_none x ls e h

no_header : (bs : List ℕ) → list_all plain_byte bs ≡ true → list_any is_header (lines_of bs) ≡ false
no_header [] h = refl
no_header (x ∷ xs) h =
    let p = and_parts (plain_byte x) (list_all plain_byte xs) h in
    let q = and_parts (not (nat_eq 59 x)) (nat_lt x 128) p.0 in
    cut_none (x == 10) x (lines_of xs) (not_true (nat_eq 59 x) q.0) (no_header xs p.1)

nothing_given : (ls : List (List ℕ)) → list_any is_header ls ≡ false → given ls ≡ []
nothing_given [] h = refl
nothing_given (l ∷ ls) h =
    let p = or_parts (is_header l) (list_any is_header ls) h in
    ap (λ (b : Bool). if b then (header_path l ls, text_before ls) ∷ given ls else given ls) p.0 ∙ nothing_given ls p.1

text_is : (bs : List ℕ) → list_any is_header (lines_of bs) ≡ false → text_before (lines_of bs) ≡ bs
text_is bs h = ap (λ (b : Bool). if b then ended_lines (take_while (λ line. not (is_header line)) (lines_of bs)) else join_with_byte 10 (lines_of bs)) h ∙ join_with_byte-slice_split 10 bs

-- ---- the one file

behind_header : (xs : List ℕ) → given (lines_of (header_line ++ (enum_line ++ xs))) ≡ (sample_path, text_before (lines_of (enum_line ++ xs))) ∷ given (lines_of (enum_line ++ xs))
unfolding path_of
behind_header xs = refl

held_alone : (text : List ℕ) → text_in (reverse ((sample_path, text) ∷ [])) sample_path ≡ Some text
unfolding path_of
held_alone text = refl

-- the one file of a sample
abbrev the_file : ℕ → Files
the_file n = (sample_path, body n) ∷ []

told_is : (n : ℕ) → n ≤ 4096 → (q : Path) → told_at (lines_of (sample_text n)) q ≡ text_in (reverse (the_file n)) q
told_is n l q =
    let none = no_header (body n) (body_clean n l) in
    ap (λ (bs : List ℕ). told_at (lines_of bs) q) (sample_is n)
    ∙ (ap (λ (fs : Files). text_in (reverse fs) q) (behind_header (each_below type_lines n ++ sample_module_text n))
    ∙ (ap (λ (fs : Files). text_in (reverse ((sample_path, text_before (lines_of (body n))) ∷ fs)) q) (nothing_given (lines_of (body n)) none)
    ∙ ap (λ (t : List ℕ). text_in (reverse ((sample_path, t) ∷ [])) q) (text_is (body n) none)))

-- it is what files that are read from the bundle hold
pub sample_held : (n : ℕ) → n ≤ 4096 → (files : Files) → IsRead (sample_text n) (Ok files) → text_in files sample_path ≡ Some (body n)
sample_held n l files r = r.3 sample_path ∙ (told_is n l sample_path ∙ held_alone (body n))

-- ---- and they are a bundle

all_ascii : (p : ℕ → Bool) → ((b : ℕ) → p b ≡ true → b < 128) → (bs : List ℕ) → list_all p bs ≡ true → IsAscii bs
all_ascii p k [] h i = omega arith
all_ascii p k (x ∷ xs) h zero = k x (and_parts (p x) (list_all p xs) h).0
all_ascii p k (x ∷ xs) h (suc i) = all_ascii p k xs (and_parts (p x) (list_all p xs) h).1 i

header_utf8 : IsUtf8 header_line
header_utf8 = IsUtf8-from_ascii header_line (all_ascii (λ b. nat_lt b 128) (λ b h. ltb-true b 128 h) header_line refl)

body_utf8 : (n : ℕ) → n ≤ 4096 → IsUtf8 (body n)
body_utf8 n l = IsUtf8-from_ascii (body n) (all_ascii plain_byte (λ b h. ltb-true b 128 (and_parts (not (nat_eq 59 b)) (nat_lt b 128) h).1) (body n) (body_clean n l))

sample_utf8 : (n : ℕ) → n ≤ 4096 → IsUtf8 (sample_text n)
sample_utf8 n l = subst (λ (bs : List ℕ). IsUtf8 bs) (sym (sample_is n)) (IsUtf8-append header_line (body n) header_utf8 (body_utf8 n l))

too_long : bundle.TooLong ≡ bundle.OutOfMemory → ⊥
too_long d = cc

-- its bytes are few enough, and nothing stands before its header: neither is a reason to refuse it
few_enough : (n : ℕ) → n ≤ 4096 → length (sample_text n) ≤ limit
few_enough n l = by (nat_le (length (sample_text n)) limit) refl
  where
    by : (t : Bool) → nat_le (length (sample_text n)) limit ≡ t → length (sample_text n) ≤ limit
    by true e = leb-true (length (sample_text n)) limit e
    by false e = absurd (too_long (only-memory n bundle.TooLong (omega (arith, l)) (sample_utf8 n l) (leb-false (length (sample_text n)) limit e)))

before_first : (at : ℕ) → bundle.BeforeFirst at ≡ bundle.OutOfMemory → ⊥
before_first at d = cc

nothing_stray : (n : ℕ) → n ≤ 4096 → stray (lines_of (sample_text n)) ≡ None
nothing_stray n l = by (stray (lines_of (sample_text n))) refl
  where
    by : (o : Option ℕ) → stray (lines_of (sample_text n)) ≡ o → o ≡ None
    by None e = refl
    by (Some at) e = absurd (before_first at (only-memory n (bundle.BeforeFirst at) (omega (arith, l)) (sample_utf8 n l) (few_enough n l, sample_utf8 n l, e)))

pub sample_read : (n : ℕ) → n ≤ 4096 → (files : Files) × IsRead (sample_text n) (Ok files)
sample_read n l = (reverse (the_file n), (few_enough n l, sample_utf8 n l, nothing_stray n l, λ q. sym (told_is n l q)))
