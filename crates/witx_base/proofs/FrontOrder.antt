-- Names whose first eight bytes spell other numbers are ordered as these numbers; those of at most 15 bytes of one such
-- number as the numbers behind, and last by their lengths.
use Rattle.std.proofs.Common.{◌≡◌, ℕ, zero, suc, List, [], ◌∷◌, ◌+◌, ◌*◌, ◌<◌, ◌≤◌, get_or, drop, length, refl, sym, ap, subst, ◌∙◌, arith, nat_cmp, Ordering, Less, Equal, Greater}
use Rattle.std.proofs.lemmas.List.{get_or-drop}
use Rattle.std.specs.Cmp.Lexicographic.{slice_cmp}
use Rattle.std.specs.Cmp.{nat_cmp_is, ranks}
use Rattle.std.specs.Ordering.{MatchOrdering, ordering_then}
use Rattle.witx_base.specs.Fronts.{AreBytes, with_bytes_behind, number_of_eight, front_of, back_of}

next : (k : ℕ) (xs : List ℕ) → get_or (drop 1 xs) k 0 ≡ get_or xs (suc k) 0
next k [] = refl
next k (x ∷ xs) = refl

left-bytes : (xs : List ℕ) → AreBytes xs → AreBytes (drop 1 xs)
left-bytes xs h k = subst (λ (b : ℕ). b < 256) (sym (next k xs)) (h (suc k))

-- what is left behind so many bytes
abbrev peel : ℕ → List ℕ → List ℕ
peel zero xs = xs
peel (suc i) xs = peel i (drop 1 xs)

peeled : (i : ℕ) (xs : List ℕ) → get_or (peel i xs) 0 0 ≡ get_or xs i 0
peeled zero xs = refl
peeled (suc i) xs = peeled i (drop 1 xs) ∙ next i xs

eight-spelt : (xs : List ℕ) → number_of_eight xs ≡ get_or xs 0 0 * 72057594037927936 + get_or xs 1 0 * 281474976710656 + get_or xs 2 0 * 1099511627776
    + get_or xs 3 0 * 4294967296 + get_or xs 4 0 * 16777216 + get_or xs 5 0 * 65536 + get_or xs 6 0 * 256 + get_or xs 7 0
eight-spelt xs = omega (arith, peeled 1 xs, peeled 2 xs, peeled 3 xs, peeled 4 xs, peeled 5 xs, peeled 6 xs, peeled 7 xs)

pub spelt : (xs : List ℕ) → front_of xs ≡ get_or xs 0 0 * 72057594037927936 + get_or xs 1 0 * 281474976710656 + get_or xs 2 0 * 1099511627776
    + get_or xs 3 0 * 4294967296 + get_or xs 4 0 * 16777216 + get_or xs 5 0 * 65536 + get_or xs 6 0 * 256 + get_or xs 7 0
unfolding front_of
spelt xs = eight-spelt xs

pub spelt-from : (at : ℕ) (xs : List ℕ) → number_of_eight (drop at xs) ≡ get_or xs at 0 * 72057594037927936 + get_or xs (at + 1) 0 * 281474976710656 + get_or xs (at + 2) 0 * 1099511627776
    + get_or xs (at + 3) 0 * 4294967296 + get_or xs (at + 4) 0 * 16777216 + get_or xs (at + 5) 0 * 65536 + get_or xs (at + 6) 0 * 256 + get_or xs (at + 7) 0
spelt-from at xs =
    let first : get_or (drop at xs) 0 0 ≡ get_or xs at 0 = get_or-drop at xs 0 0 ∙ ap (λ (k : ℕ). get_or xs k 0) (omega arith) in
    omega (arith, eight-spelt (drop at xs), first, get_or-drop at xs 1 0, get_or-drop at xs 2 0, get_or-drop at xs 3 0, get_or-drop at xs 4 0, get_or-drop at xs 5 0, get_or-drop at xs 6 0, get_or-drop at xs 7 0)

-- that is what `drop` leaves
peel-drop : (i : ℕ) (xs : List ℕ) → drop i xs ≡ peel i xs
peel-drop zero xs = refl
peel-drop (suc i) [] = peel-nil i
  where
    peel-nil : (i : ℕ) → [] ≡ peel i []
    peel-nil zero = refl
    peel-nil (suc i) = peel-nil i
peel-drop (suc i) (x ∷ xs) = peel-drop i xs

-- a lesser number stays less, whatever bytes come behind both
rising : (count a b : ℕ) (xs ys : List ℕ) → AreBytes xs → a < b → with_bytes_behind a count xs < with_bytes_behind b count ys
rising zero a b xs ys h l = l
rising (suc count) a b xs ys h l =
    let small : get_or xs 0 0 < 256 = h 0 in
    rising count (a * 256 + get_or xs 0 0) (b * 256 + get_or ys 0 0) (drop 1 xs) (drop 1 ys) (left-bytes xs h) (omega arith)

-- nothing behind a number is the least
least : (count a b : ℕ) (ys : List ℕ) → a ≤ b → with_bytes_behind a count [] ≤ with_bytes_behind b count ys
least zero a b ys l = l
least (suc count) a b ys l = least count (a * 256 + 0) (b * 256 + get_or ys 0 0) (drop 1 ys) (omega arith)

below : (x y : ℕ) → x < y → Less ≡ nat_cmp x y
below x y l = nat_cmp_is x y Less l

above : (x y : ℕ) → y < x → Greater ≡ nat_cmp x y
above x y l = nat_cmp_is x y Greater l

under : (x y : ℕ) → x ≤ y → (x ≡ y → ⊥) → x < y
under x y l f = by (nat_cmp x y) (ranks x y)
  where
    by : (r : Ordering) → MatchOrdering r (x < y) (x ≡ y) (y < x) → x < y
    by Less h = h
    by Equal h = absurd (f h)
    by Greater h = let over : y < x = h in absurd (omega arith)

told : (count a : ℕ) (xs ys : List ℕ) → AreBytes xs → AreBytes ys → (with_bytes_behind a count xs ≡ with_bytes_behind a count ys → ⊥)
    → slice_cmp nat_cmp xs ys ≡ nat_cmp (with_bytes_behind a count xs) (with_bytes_behind a count ys)
told zero a xs ys g h f = absurd (f refl)
told (suc count) a [] [] g h f = absurd (f refl)
told (suc count) a [] (y ∷ ys) g h f = below _ _ (under _ _ (least count (a * 256 + 0) (a * 256 + y) ys (omega arith)) f)
told (suc count) a (x ∷ xs) [] g h f = above _ _ (under _ _ (least count (a * 256 + 0) (a * 256 + x) xs (omega arith)) (λ e. f (sym e)))
told (suc count) a (x ∷ xs) (y ∷ ys) g h f = by (nat_cmp x y) refl (ranks x y) (told count (a * 256 + x) xs ys (λ k. g (suc k)) (λ k. h (suc k)))
  where
    by : (r : Ordering) → nat_cmp x y ≡ r → MatchOrdering r (x < y) (x ≡ y) (y < x)
        → ((with_bytes_behind (a * 256 + x) count xs ≡ with_bytes_behind (a * 256 + x) count ys → ⊥) → slice_cmp nat_cmp xs ys ≡ nat_cmp (with_bytes_behind (a * 256 + x) count xs) (with_bytes_behind (a * 256 + x) count ys))
        → slice_cmp nat_cmp (x ∷ xs) (y ∷ ys) ≡ nat_cmp (with_bytes_behind (a * 256 + x) count xs) (with_bytes_behind (a * 256 + y) count ys)
    by Less e l rest =
        let fewer : x < y = l in
        ap (λ r. ordering_then r (slice_cmp nat_cmp xs ys)) e ∙ below _ _ (rising count (a * 256 + x) (a * 256 + y) xs ys (λ k. g (suc k)) (omega arith))
    by Greater e l rest =
        let fewer : y < x = l in
        ap (λ r. ordering_then r (slice_cmp nat_cmp xs ys)) e ∙ above _ _ (rising count (a * 256 + y) (a * 256 + x) ys xs (λ k. h (suc k)) (omega arith))
    by Equal e l rest =
        let same : x ≡ y = l in
        ap (λ r. ordering_then r (slice_cmp nat_cmp xs ys)) e
        ∙ rest (λ s. f (s ∙ ap (λ z. with_bytes_behind (a * 256 + z) count ys) same))
        ∙ ap (λ z. nat_cmp (with_bytes_behind (a * 256 + x) count xs) (with_bytes_behind (a * 256 + z) count ys)) same

pub front-decides : (xs ys : List ℕ) → AreBytes xs → AreBytes ys → (front_of xs ≡ front_of ys → ⊥) → nat_cmp (front_of xs) (front_of ys) ≡ slice_cmp nat_cmp xs ys
unfolding front_of
front-decides xs ys g h f = sym (told 8 0 xs ys g h f)

-- two numbers behind which the same bytes come keep their distance
shifted : (count a b c d : ℕ) (xs ys : List ℕ) → a + d ≡ c + b
    → with_bytes_behind a count xs + with_bytes_behind d count ys ≡ with_bytes_behind c count xs + with_bytes_behind b count ys
shifted zero a b c d xs ys e = e
shifted (suc count) a b c d xs ys e =
    shifted count (a * 256 + get_or xs 0 0) (b * 256 + get_or ys 0 0) (c * 256 + get_or xs 0 0) (d * 256 + get_or ys 0 0) (drop 1 xs) (drop 1 ys) (omega arith)

-- one more on both sides changes no order
one-more : (m n : ℕ) → nat_cmp m n ≡ nat_cmp (suc m) (suc n)
one-more m n = by (nat_cmp m n) (ranks m n)
  where
    by : (r : Ordering) → MatchOrdering r (m < n) (m ≡ n) (n < m) → r ≡ nat_cmp (suc m) (suc n)
    by Less h = let l : m < n = h in below (suc m) (suc n) (omega arith)
    by Equal h = nat_cmp_is (suc m) (suc n) Equal (ap (λ k. suc k) h)
    by Greater h = let l : n < m = h in above (suc m) (suc n) (omega arith)

-- of two texts of one number, the shorter one is first
tied : (count a : ℕ) (xs ys : List ℕ) → AreBytes xs → AreBytes ys → length xs ≤ count → length ys ≤ count
    → with_bytes_behind a count xs ≡ with_bytes_behind a count ys → slice_cmp nat_cmp xs ys ≡ nat_cmp (length xs) (length ys)
tied count a [] [] g h m n e = refl
tied count a [] (y ∷ ys) g h m n e = below 0 (length (y ∷ ys)) (omega arith)
tied count a (x ∷ xs) [] g h m n e = above (length (x ∷ xs)) 0 (omega arith)
tied zero a (x ∷ xs) (y ∷ ys) g h m n e = absurd (omega arith)
tied (suc count) a (x ∷ xs) (y ∷ ys) g h m n e =
    by (nat_cmp x y) refl (ranks x y) (λ s. tied count (a * 256 + x) xs ys (λ k. g (suc k)) (λ k. h (suc k)) (omega arith) (omega arith) s)
  where
    by : (r : Ordering) → nat_cmp x y ≡ r → MatchOrdering r (x < y) (x ≡ y) (y < x)
        → (with_bytes_behind (a * 256 + x) count xs ≡ with_bytes_behind (a * 256 + x) count ys
        → slice_cmp nat_cmp xs ys ≡ nat_cmp (length xs) (length ys))
        → slice_cmp nat_cmp (x ∷ xs) (y ∷ ys) ≡ nat_cmp (suc (length xs)) (suc (length ys))
    by Less t l rest =
        let fewer : x < y = l in
        let over : with_bytes_behind (a * 256 + x) count xs < with_bytes_behind (a * 256 + y) count ys =
        rising count (a * 256 + x) (a * 256 + y) xs ys (λ k. g (suc k)) (omega arith) in
        absurd (omega (arith, over, e))
    by Greater t l rest =
        let fewer : y < x = l in
        let over : with_bytes_behind (a * 256 + y) count ys < with_bytes_behind (a * 256 + x) count xs =
        rising count (a * 256 + y) (a * 256 + x) ys xs (λ k. h (suc k)) (omega arith) in
        absurd (omega (arith, over, e))
    by Equal t l rest =
        let same : x ≡ y = l in
        ap (λ r. ordering_then r (slice_cmp nat_cmp xs ys)) t
        ∙ rest (e ∙ ap (λ z. with_bytes_behind (a * 256 + z) count ys) (sym same))
        ∙ one-more (length xs) (length ys)

-- the number of the first 15 bytes
abbrev whole_of : List ℕ → ℕ
whole_of xs = with_bytes_behind 0 15 xs

-- of one front, the numbers of the first 15 bytes are as far from one another as those behind
apart : (xs ys : List ℕ) → AreBytes xs → AreBytes ys → front_of xs ≡ front_of ys → whole_of xs + back_of ys ≡ back_of xs + whole_of ys
unfolding front_of back_of
apart xs ys g h e =
    let b : get_or xs 7 0 < 256 = g 7 in
    let c : get_or ys 7 0 < 256 = h 7 in
    let s : get_or xs 7 0 ≡ get_or ys 7 0 = omega (arith, e, peeled 7 xs, peeled 7 ys) in
    rw (peel-drop 7 xs, peel-drop 7 ys)
    (shifted 7 (with_bytes_behind 0 8 xs) (with_bytes_behind 0 8 ys) (0 * 256 + get_or (peel 7 xs) 0 0) (0 * 256 + get_or (peel 7 ys) 0 0)
    (peel 8 xs) (peel 8 ys) (omega (arith, e, s, peeled 7 xs, peeled 7 ys)))

pub back-decides : (xs ys : List ℕ) → AreBytes xs → AreBytes ys → front_of xs ≡ front_of ys → (back_of xs ≡ back_of ys → ⊥)
    → nat_cmp (back_of xs) (back_of ys) ≡ slice_cmp nat_cmp xs ys
back-decides xs ys g h e f =
    sym (told 15 0 xs ys g h (λ s. f (omega (arith, s, apart xs ys g h e)))
    ∙ by (nat_cmp (back_of xs) (back_of ys)) (ranks (back_of xs) (back_of ys)) (apart xs ys g h e))
  where
    by : (r : Ordering) → MatchOrdering r (back_of xs < back_of ys) (back_of xs ≡ back_of ys) (back_of ys < back_of xs)
        → whole_of xs + back_of ys ≡ back_of xs + whole_of ys → nat_cmp (whole_of xs) (whole_of ys) ≡ r
    by Less l d = let less : back_of xs < back_of ys = l in sym (below (whole_of xs) (whole_of ys) (omega (arith, d, less)))
    by Equal l d = absurd (f l)
    by Greater l d = let more : back_of ys < back_of xs = l in sym (above (whole_of xs) (whole_of ys) (omega (arith, d, more)))

pub length-decides : (xs ys : List ℕ) → AreBytes xs → AreBytes ys → length xs ≤ 15 → length ys ≤ 15 → front_of xs ≡ front_of ys → back_of xs ≡ back_of ys
    → nat_cmp (length xs) (length ys) ≡ slice_cmp nat_cmp xs ys
length-decides xs ys g h m n e f = sym (tied 15 0 xs ys g h m n (omega (arith, f, apart xs ys g h e)))
