-- Paths are in the order of their parts exactly where their texts are in the order in which a slash stands before
-- every other byte.
use Rattle.std.proofs.Common.{◌≡◌, ℕ, ◌+◌, ◌<◌, ◌≤◌, List, [], ◌∷◌, Bool, true, false, refl, sym, ap, ◌∙◌, cond, if◌then◌else◌, length, drop, get_or, arith}
use Rattle.std.specs.Prelude.{◌==◌, nat_lt, min}
use Rattle.std.specs.List.{onto_first}
use Rattle.std.specs.declared.cmp.Ordering.{Ordering}
use Rattle.std.specs.declared.cmp.Ordering.TheVariants.{Less, Equal, Greater}
use Rattle.std.specs.Ordering.{nat_cmp, ordering_then}
use Rattle.std.specs.Cmp.Lexicographic.{slice_cmp}
use Rattle.std.proofs.lemmas.Bool.{eq-eqb, eqb-true}
use Rattle.std.proofs.lemmas.Bool.Decides.{nat_tests}
use Rattle.std.proofs.lemmas.List.{drop_more, length-drop}
use Rattle.witx_base.specs.Paths.{parts_of}
use Rattle.witx_base.specs.PathTexts.{rank, slash_first}

in_order : List (List ℕ) → List (List ℕ) → Ordering
in_order = slice_cmp (slice_cmp nat_cmp)

-- ---- numbers

rank-slash : (b : ℕ) → (b == 47) ≡ true → rank b ≡ 0
rank-slash b e = ap (λ t. if t then 0 else b + 1) e

rank-other : (b : ℕ) → (b == 47) ≡ false → rank b ≡ b + 1
rank-other b e = ap (λ t. if t then 0 else b + 1) e

zero-below : (n : ℕ) → nat_cmp 0 (n + 1) ≡ Less
zero-below n =
    let below : nat_lt 0 (n + 1) ≡ true = grind (arith, nat_tests) in
    ap (λ t. cond t Less (cond (0 == n + 1) Equal Greater)) below

zero-above : (n : ℕ) → nat_cmp (n + 1) 0 ≡ Greater
zero-above n =
    let below : nat_lt (n + 1) 0 ≡ false = grind (arith, nat_tests) in
    let same : (n + 1 == 0) ≡ false = grind (arith, nat_tests) in
    ap (λ t. cond t Less (cond (n + 1 == 0) Equal Greater)) below ∙ ap (λ t. cond t Equal Greater) same

lt-more : (t : Bool) (m n : ℕ) → nat_lt m n ≡ t → nat_lt (m + 1) (n + 1) ≡ t
lt-more true m n e = grind (arith, nat_tests)
lt-more false m n e = grind (arith, nat_tests)

eq-more : (t : Bool) (m n : ℕ) → (m == n) ≡ t → (m + 1 == n + 1) ≡ t
eq-more true m n e = grind (arith, nat_tests)
eq-more false m n e = grind (arith, nat_tests)

both-more : (m n : ℕ) → nat_cmp (m + 1) (n + 1) ≡ nat_cmp m n
both-more m n = λ i. cond (lt-more (nat_lt m n) m n refl i) Less (cond (eq-more (m == n) m n refl i) Equal Greater)

self : (n : ℕ) → nat_cmp n n ≡ Equal
self n =
    let below : nat_lt n n ≡ false = grind (arith, nat_tests) in
    ap (λ t. cond t Less (cond (n == n) Equal Greater)) below ∙ ap (λ t. cond t Equal Greater) (eq-eqb n n refl)

decided : (u : Bool) (r : Ordering) → ordering_then (cond u Less Greater) r ≡ cond u Less Greater
decided true r = refl
decided false r = refl

unlike : (m n : ℕ) (r : Ordering) → (m == n) ≡ false → ordering_then (nat_cmp m n) r ≡ nat_cmp m n
unlike m n r e =
    let o : nat_cmp m n ≡ cond (nat_lt m n) Less Greater = ap (λ t. cond (nat_lt m n) Less (cond t Equal Greater)) e in
    ap (λ x. ordering_then x r) o ∙ decided (nat_lt m n) r ∙ sym o

-- ---- parts, by their first bytes

then-then : (x y z : Ordering) → ordering_then x (ordering_then y z) ≡ ordering_then (ordering_then x y) z
then-then Less y z = refl
then-then Equal y z = refl
then-then Greater y z = refl

heads : (x y : ℕ) (p q : List ℕ) (ps qs : List (List ℕ)) → in_order ((x ∷ p) ∷ ps) ((y ∷ q) ∷ qs) ≡ ordering_then (nat_cmp x y) (in_order (p ∷ ps) (q ∷ qs))
unfolding in_order
heads x y p q ps qs = sym (then-then (nat_cmp x y) (slice_cmp nat_cmp p q) (slice_cmp (slice_cmp nat_cmp) ps qs))

abbrev with_byte : Bool → ℕ → List ℕ → List (List ℕ) → List (List ℕ)
with_byte slash x p ps = cond slash ([] ∷ p ∷ ps) ((x ∷ p) ∷ ps)

parts-more : (x : ℕ) (xs p : List ℕ) (ps : List (List ℕ)) → parts_of xs ≡ p ∷ ps → parts_of (x ∷ xs) ≡ with_byte (x == 47) x p ps
parts-more x xs p ps e = ap (λ l. cond (x == 47) ([] ∷ l) (onto_first x l)) e

-- there is always a part
record Parts (xs : List ℕ) : Type 0 where
  first : List ℕ
  others : List (List ℕ)
  are : parts_of xs ≡ first ∷ others

with-first : (t : Bool) (x : ℕ) (xs : List ℕ) → (x == 47) ≡ t → Parts xs → Parts (x ∷ xs)
with-first true x xs e h = record { first = []; others = h.first ∷ h.others; are = parts-more x xs h.first h.others h.are ∙ ap (λ t. with_byte t x h.first h.others) e }
with-first false x xs e h = record { first = x ∷ h.first; others = h.others; are = parts-more x xs h.first h.others h.are ∙ ap (λ t. with_byte t x h.first h.others) e }

parts-there : (xs : List ℕ) → Parts xs
parts-there [] = record { first = []; others = []; are = refl }
parts-there (x ∷ xs) = with-first (x == 47) x xs refl (parts-there xs)

step : (s t : Bool) (x y : ℕ) (p q : List ℕ) (ps qs : List (List ℕ)) → (x == 47) ≡ s → (y == 47) ≡ t
    → ordering_then (slash_first x y) (in_order (p ∷ ps) (q ∷ qs)) ≡ in_order (with_byte s x p ps) (with_byte t y q qs)
unfolding in_order
step true true x y p q ps qs e f = λ i. ordering_then (nat_cmp (rank-slash x e i) (rank-slash y f i)) (in_order (p ∷ ps) (q ∷ qs))
step true false x y p q ps qs e f =
    (λ i. ordering_then (nat_cmp (rank-slash x e i) (rank-other y f i)) (in_order (p ∷ ps) (q ∷ qs)))
    ∙ ap (λ o. ordering_then o (in_order (p ∷ ps) (q ∷ qs))) (zero-below y)
step false true x y p q ps qs e f =
    (λ i. ordering_then (nat_cmp (rank-other x e i) (rank-slash y f i)) (in_order (p ∷ ps) (q ∷ qs)))
    ∙ ap (λ o. ordering_then o (in_order (p ∷ ps) (q ∷ qs))) (zero-above x)
step false false x y p q ps qs e f =
    (λ i. ordering_then (nat_cmp (rank-other x e i) (rank-other y f i)) (in_order (p ∷ ps) (q ∷ qs)))
    ∙ ap (λ o. ordering_then o (in_order (p ∷ ps) (q ∷ qs))) (both-more x y)
    ∙ sym (heads x y p q ps qs)

neither : Equal ≡ in_order ([] ∷ []) ([] ∷ [])
unfolding in_order
neither = refl

none-first : (t : Bool) (y : ℕ) (q : List ℕ) (qs : List (List ℕ)) → Less ≡ in_order ([] ∷ []) (with_byte t y q qs)
unfolding in_order
none-first true y q qs = refl
none-first false y q qs = refl

none-second : (t : Bool) (x : ℕ) (p : List ℕ) (ps : List (List ℕ)) → Greater ≡ in_order (with_byte t x p ps) ([] ∷ [])
unfolding in_order
none-second true x p ps = refl
none-second false x p ps = refl

ordered : (xs ys : List ℕ) → slice_cmp slash_first xs ys ≡ in_order (parts_of xs) (parts_of ys)
ordered [] [] = neither
ordered [] (y ∷ ys) =
    let h = parts-there ys in
    none-first (y == 47) y h.first h.others ∙ ap (λ ps. in_order ([] ∷ []) ps) (sym (parts-more y ys h.first h.others h.are))
ordered (x ∷ xs) [] =
    let h = parts-there xs in
    none-second (x == 47) x h.first h.others ∙ ap (λ ps. in_order ps ([] ∷ [])) (sym (parts-more x xs h.first h.others h.are))
ordered (x ∷ xs) (y ∷ ys) =
    let h = parts-there xs in
    let k = parts-there ys in
    ap (λ o. ordering_then (slash_first x y) o) (ordered xs ys ∙ (λ i. in_order (h.are i) (k.are i)))
    ∙ step (x == 47) (y == 47) x y h.first k.first h.others k.others refl refl
    ∙ (λ i. in_order (sym (parts-more x xs h.first h.others h.are) i) (sym (parts-more y ys k.first k.others k.are) i))

pub in-parts : (xs ys : List ℕ) → slice_cmp slash_first xs ys ≡ slice_cmp (slice_cmp nat_cmp) (parts_of xs) (parts_of ys)
unfolding in_order
in-parts xs ys = ordered xs ys

pub ruleset part_rules = (in-parts)

-- ---- byte by byte

unlike-rank : (s t : Bool) (x y : ℕ) → (x == 47) ≡ s → (y == 47) ≡ t → (x == y) ≡ false → (rank x == rank y) ≡ false
unlike-rank true true x y e f n = let no : (x == y) ≡ true = eq-eqb x y (eqb-true x 47 e ∙ sym (eqb-true y 47 f)) in let wrong : true ≡ false = sym no ∙ n in absurd (cc)
unlike-rank true false x y e f n = (λ i. rank-slash x e i == rank-other y f i) ∙ grind (arith, nat_tests)
unlike-rank false true x y e f n = (λ i. rank-other x e i == rank-slash y f i) ∙ grind (arith, nat_tests)
unlike-rank false false x y e f n = (λ i. rank-other x e i == rank-other y f i) ∙ eq-more false x y n

first-is : (xs : List ℕ) (i x : ℕ) → i < length xs → x ≡ get_or xs i x → drop i xs ≡ x ∷ drop (i + 1) xs
first-is xs i x l p = drop_more xs i x l ∙ ap (λ y. y ∷ drop (i + 1) xs) (sym p)

pub next-byte : (xs ys : List ℕ) (i x y : ℕ) (total : Ordering) → i < length xs → i < length ys → x ≡ get_or xs i x → y ≡ get_or ys i y → x ≡ y
    → slice_cmp slash_first (drop i xs) (drop i ys) ≡ total → slice_cmp slash_first (drop (i + 1) xs) (drop (i + 1) ys) ≡ total
next-byte xs ys i x y total l k p q e h =
    ap (λ o. ordering_then o (slice_cmp slash_first (drop (i + 1) xs) (drop (i + 1) ys))) (sym (self (rank y)) ∙ ap (λ z. nat_cmp (rank z) (rank y)) (sym e))
    ∙ (λ j. slice_cmp slash_first (sym (first-is xs i x l p) j) (sym (first-is ys i y k q) j)) ∙ h

pub unlike-byte : (xs ys : List ℕ) (i x y : ℕ) (total : Ordering) → i < length xs → i < length ys → x ≡ get_or xs i x → y ≡ get_or ys i y → (x == y) ≡ false
    → slice_cmp slash_first (drop i xs) (drop i ys) ≡ total → nat_cmp (rank x) (rank y) ≡ total
unlike-byte xs ys i x y total l k p q e h =
    sym (unlike (rank x) (rank y) (slice_cmp slash_first (drop (i + 1) xs) (drop (i + 1) ys)) (unlike-rank (x == 47) (y == 47) x y refl refl e))
    ∙ (λ j. slice_cmp slash_first (sym (first-is xs i x l p) j) (sym (first-is ys i y k q) j)) ∙ h

-- the lengths decide where nothing more stands in one of the two
lengths : (some others : List ℕ) (m n i : ℕ) → m ≡ i + length some → n ≡ i + length others → min m n ≤ i → nat_cmp m n ≡ slice_cmp slash_first some others
lengths [] [] m n i p q l = (λ j. nat_cmp (p j) (q j)) ∙ self (i + 0)
lengths [] (b ∷ others) m n i p q l =
    let below : nat_lt m n ≡ true = grind (arith, nat_tests) in
    ap (λ t. cond t Less (cond (m == n) Equal Greater)) below
lengths (a ∷ some) [] m n i p q l =
    let below : nat_lt m n ≡ false = grind (arith, nat_tests) in
    let same : (m == n) ≡ false = grind (arith, nat_tests) in
    ap (λ t. cond t Less (cond (m == n) Equal Greater)) below ∙ ap (λ t. cond t Equal Greater) same
lengths (a ∷ some) (b ∷ others) m n i p q l = absurd (omega arith)

pub at-end : (xs ys : List ℕ) (i : ℕ) (total : Ordering) → min (length xs) (length ys) ≤ i → i ≤ min (length xs) (length ys)
    → slice_cmp slash_first (drop i xs) (drop i ys) ≡ total → nat_cmp (length xs) (length ys) ≡ total
at-end xs ys i total l k h =
    lengths (drop i xs) (drop i ys) (length xs) (length ys) i (omega (arith, length-drop i xs)) (omega (arith, length-drop i ys)) l ∙ h

pub ruleset byte_rules = (next-byte, unlike-byte, at-end)
