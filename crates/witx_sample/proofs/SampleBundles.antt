-- The bytes of a sample are a bundle: there are few enough, and the first line is a header.
use Rattle.std.proofs.Common.{◌≡◌, ℕ, zero, suc, ◌+◌, ◌*◌, ◌^◌, ◌<◌, ◌≤◌, List, ◌++◌, length, length-append, refl, IsUtf8, None, Err, arith, codes}
use Rattle.std.specs.Fmt.{decimal}
use Rattle.std.specs.List.{flat_map, range_with_len}
use Rattle.std.proofs.lemmas.Fmt.{length-decimal-le}
use Rattle.witx_bundle.specs.Bundles.{IsRead, limit, lines_of, stray}
use Rattle.witx_bundle.specs.declared.error.BundleError.{BundleError}
use Rattle.witx_bundle.specs.declared.error.BundleError.TheVariants as bundle
use Rattle.witx_sample.specs.declared.sample.TheConstants.{LARGEST_SAMPLE}
use Rattle.witx_sample.specs.Samples.{each_below, enum_line, func_head, sample_func_line, func_params, func_result, header_line, list_case, sample_module_text, record_case, record_line, sample_text, type_lines, sample_types_text, variant_head, variant_line}

-- ---- how long the lines are

few : (xs : List ℕ) (m : ℕ) → length xs ≡ m → length xs ≤ m
few xs m e = omega (arith, e)

longer : (a b : List ℕ) (m n : ℕ) → length a ≤ m → length b ≤ n → length (a ++ b) ≤ m + n
longer a b m n p q = omega (arith, length-append a b, p, q)

digits-few : (i : ℕ) → i < 2 ^ 64 → length (decimal i) ≤ 20
digits-few i h = length-decimal-le 20 i (omega arith) (omega (arith, h)) h

-- a number between two texts
numbered-few : (front back : List ℕ) (i : ℕ) → i < 2 ^ 64 → length (front ++ decimal i ++ back) ≤ length front + 20 + length back
numbered-few front back i h = longer (front ++ decimal i) back (length front + 20) (length back) (longer front (decimal i) (length front) 20 (few front (length front) refl) (digits-few i h)) (few back (length back) refl)

record-few : (i : ℕ) → i < 2 ^ 64 → length (record_line i) ≤ 87
unfolding record_line
record-few i h = numbered-few (codes "(typename $r") (codes " (record (field $a u32) (field $b $e) (field $c u64)))\n") i h

variant-few : (i : ℕ) → i < 2 ^ 64 → length (variant_line i) ≤ 168
unfolding variant_line variant_head record_case list_case
variant-few i h =
    let head = numbered-few (codes "(typename $v") (codes " (variant (@witx tag u8)") i h in
    let record' = numbered-few (codes " (case $x $r") (codes ")") i h in
    let list = numbered-few (codes " (case $y (list $r") (codes ")) (case $z)))\n") i h in
    let back = longer (record_case i) (list_case i) 33 53 record' list in
    let all = longer (variant_head i) (record_case i ++ list_case i) 56 86 head back in
    omega (arith, all)

type-few : (i : ℕ) → i < 2 ^ 64 → length (type_lines i) ≤ 256
unfolding type_lines
type-few i h = omega (arith, longer (record_line i) (variant_line i) 87 168 (record-few i h) (variant-few i h))

func-few : (i : ℕ) → i < 2 ^ 64 → length (sample_func_line i) ≤ 256
unfolding sample_func_line func_head func_params func_result
func-few i h =
    let head = numbered-few (codes "(@interface func (export \"f") (codes "\")") i h in
    let params = numbered-few (codes " (param $p $v") (codes ") (param $q string)") i h in
    let result = numbered-few (codes " (result $s (expected (tuple $r") (codes " $e) (error $e))))\n") i h in
    let back = longer (func_params i) (func_result i) 52 70 params result in
    let all = longer (func_head i) (func_params i ++ func_result i) 49 122 head back in
    omega (arith, all)

each-few : (f : ℕ → List ℕ) → ((i : ℕ) → i < 2 ^ 64 → length (f i) ≤ 256) → (a n : ℕ) → a + n ≤ 2 ^ 64 → length (flat_map f (range_with_len a n)) ≤ 256 * n
each-few f h a zero l = omega arith
each-few f h a (suc n) l =
    let here = h a (omega (arith, l)) in
    let more = each-few f h (a + 1) n (omega (arith, l)) in
    omega (arith, length-append (f a) (flat_map f (range_with_len (a + 1) n)), here, more)

sample-few : (n : ℕ) → n ≤ LARGEST_SAMPLE → length (sample_text n) ≤ limit
unfolding sample_text sample_types_text sample_module_text
sample-few n h =
    let types = each-few type_lines type-few 0 n (omega (arith, h)) in
    let functions = each-few sample_func_line func-few 0 n (omega (arith, h)) in
    let head = longer enum_line (each_below type_lines n) 46 (256 * n) (few enum_line 46 refl) types in
    let tail = longer (each_below sample_func_line n) (codes ")\n") (256 * n) 2 functions (few (codes ")\n") 2 refl) in
    let front = longer header_line (enum_line ++ each_below type_lines n) 23 (46 + 256 * n) (few header_line 23 refl) head in
    let back = longer (codes "(module $m\n") (each_below sample_func_line n ++ codes ")\n") 11 (256 * n + 2) (few (codes "(module $m\n") 11 refl) tail in
    let all = longer (header_line ++ (enum_line ++ each_below type_lines n)) (codes "(module $m\n" ++ (each_below sample_func_line n ++ codes ")\n")) (23 + (46 + 256 * n)) (11 + (256 * n + 2)) front back in
    omega (arith, h, all)

-- ---- nothing stands before the first header

behind-header : (xs : List ℕ) → stray (lines_of (header_line ++ xs)) ≡ None
behind-header xs = refl

no-stray : (n : ℕ) → stray (lines_of (sample_text n)) ≡ None
unfolding sample_text sample_types_text
no-stray n = behind-header ((enum_line ++ each_below type_lines n) ++ sample_module_text n)

-- ---- so it is refused only for want of memory

pub only-memory : (n : ℕ) (e : BundleError) → n ≤ LARGEST_SAMPLE → IsUtf8 (sample_text n) → IsRead (sample_text n) (Err e) → e ≡ bundle.OutOfMemory
only-memory n bundle.TooLong h u k = absurd (omega (arith, sample-few n h, k))
only-memory n (bundle.NotUtf8 at) h u k = absurd (k.1 u)
only-memory n (bundle.BeforeFirst at) h u k = let a = no-stray n in let b = k.2 in absurd (cc)
only-memory n bundle.OutOfMemory h u k = refl

pub ruleset bundle_rules = (only-memory)
