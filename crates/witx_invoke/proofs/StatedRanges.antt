-- Ranges that stand where they are to stand: one more of them, their addresses, and that they don't overlap.
use Rattle.std.proofs.Common.{◌≡◌, ℕ, zero, suc, ◌+◌, ◌^◌, ◌<◌, ◌≤◌, true, refl, ap, arith, List, [], ◌∷◌, ◌++◌, length, nat_lt, nat_le, inl}
use Rattle.std.specs.Prelude.{take}
use Rattle.std.proofs.lemmas.List.{length-take-le}
use Rattle.witx_ast.specs.Tree.{Tree}
use Rattle.witx_ast.specs.Plain.{plain}
use Rattle.witx_base.specs.SameBytes.{both}
use Rattle.witx_ast.proofs.Decided.{both-then, decides-lt, decides-le}
use Rattle.witx_layout.specs.Numbers.{align_to}
use Rattle.witx_machine.specs.Run.{numbers}
use Rattle.witx_machine.specs.Cells.{Taken}
use Rattle.witx_machine.specs.Faithful.{AreOther, AreFree}
use Rattle.witx_bytes.specs.Bytes.{Bytes, in_bounds, none_held, is_free}
use Rattle.witx_bytes.specs.ByteMachine.{range_size}
use Rattle.witx_bytes.specs.Follow.{ApartFrom, AreRangesApart, AreUnused}
use Rattle.witx_bytes.proofs.Agreement.{free-from}
use Rattle.witx_call.specs.Ranges.{range_end, StandFrom, EndBelow, AreStated, addresses}
use Rattle.witx_call.specs.Room.{no_bytes, next_range, is_range_place}

up : (n : ℕ) → n ≤ align_to n 8
up n = omega arith

grows : (x : ℕ × Tree) → x.0 < align_to (range_end x) 8
grows x = let k = up (range_end x) in omega (arith, k)

pub behind-positive : (at : ℕ) (xs : Taken) → 0 < at → 0 < next_range at xs
behind-positive at [] h = h
behind-positive at (x ∷ xs) h = let k = grows x in behind-positive (align_to (range_end x) 8) xs (omega (arith, k))

pub stand-more : (at : ℕ) (xs : Taken) (t : Tree) → StandFrom at xs → StandFrom at (xs ++ (next_range at xs, t) ∷ [])
stand-more at [] t h = (refl, tt)
stand-more at (x ∷ xs) t h = (h.0, stand-more (align_to (range_end x) 8) xs t h.1)

pub below-more : (limit : ℕ) (xs : Taken) (x : ℕ × Tree) → EndBelow limit xs → range_end x ≤ limit → EndBelow limit (xs ++ x ∷ [])
below-more limit [] x h k = (k, tt)
below-more limit (y ∷ xs) x h k = (h.0, below-more limit xs x h.1 k)

-- an entry stands behind those before it, and ends below the limit
pub stand-at : (at : ℕ) (xs : Taken) (x : ℕ × Tree) (ys : Taken) → StandFrom at (xs ++ x ∷ ys) → x.0 ≡ next_range at xs
stand-at at [] x ys h = h.0
stand-at at (y ∷ xs) x ys h = stand-at (align_to (range_end y) 8) xs x ys h.1

pub below-at : (limit : ℕ) (xs : Taken) (x : ℕ × Tree) (ys : Taken) → EndBelow limit (xs ++ x ∷ ys) → range_end x ≤ limit
below-at limit [] x ys h = h.0
below-at limit (y ∷ xs) x ys h = below-at limit xs x ys h.1

apart-from : (x : ℕ × Tree) (at : ℕ) (xs : Taken) → range_end x ≤ at → StandFrom at xs → ApartFrom x xs
apart-from x at [] l h = tt
apart-from x at (y ∷ ys) l h =
    let k = grows y in let e = h.0 in
    (inl (omega (arith, l, e)), apart-from x (align_to (range_end y) 8) ys (omega (arith, l, e, k)) h.1)

-- stated ranges don't overlap
pub stated-apart : (at : ℕ) (xs : Taken) → StandFrom at xs → AreRangesApart xs
stated-apart at [] h = tt
stated-apart at (x ∷ xs) h = (apart-from x (align_to (range_end x) 8) xs (up (range_end x)) h.1, stated-apart (align_to (range_end x) 8) xs h.1)

pub free-of : (at n : ℕ) (m : Bytes) → 0 < at → at + n ≤ 2 ^ 32 → none_held at n m ≡ true → is_free at n m ≡ true
free-of at n m l u h = both-then (in_bounds at n) (none_held at n m) (both-then (nat_lt 0 at) (nat_le (at + n) (2 ^ 32)) ((decides-lt 0 at).1 l) ((decides-le (at + n) (2 ^ 32)).1 u)) h

-- in a memory without bytes they are free
pub stated-unused : (at : ℕ) (xs : Taken) → 0 < at → StandFrom at xs → EndBelow (2 ^ 20) xs → AreUnused no_bytes xs
stated-unused at [] l h k = tt
stated-unused at (x ∷ xs) l h k =
    let e = h.0 in let b = k.0 in let g = grows x in
    (free-of x.0 (range_size (plain x.1)) no_bytes (omega (arith, e, l)) (omega (arith, b)) (free-from x.0 (range_size (plain x.1)) no_bytes (λ y lo hi. refl)), stated-unused (align_to (range_end x) 8) xs (omega (arith, g)) h.1 k.1)

-- what the program asks of a place is what the machine over bytes asks
pub place-free : (at n : ℕ) (m : Bytes) → 0 < at → is_range_place at n m ≡ true → is_free at n m ≡ true
place-free at n m l h =
    let p = both (nat_le (at + n) (2 ^ 20)) (none_held at n m) h in
    let b = (decides-le (at + n) (2 ^ 20)).0 p.0 in
    free-of at n m l (omega (arith, b)) p.1

pub free-place : (at n : ℕ) (m : Bytes) → at + n ≤ 2 ^ 20 → is_free at n m ≡ true → is_range_place at n m ≡ true
free-place at n m l h = both-then (nat_le (at + n) (2 ^ 20)) (none_held at n m) ((decides-le (at + n) (2 ^ 20)).1 l) (both (in_bounds at n) (none_held at n m) h).1

-- addresses that rise from one on, below 2^32
abbrev Rise : ℕ → List ℕ → Type 0
Rise at [] = Unit {0}
Rise at (a ∷ more) = (at ≤ a) × (a < 2 ^ 32) × Rise (suc a) more

others : (a at : ℕ) (xs : List ℕ) → a < at → Rise at xs → AreOther a xs
others a at [] l h = tt
others a at (x ∷ xs) l h = let le = h.0 in (λ e. omega (arith, l, le, e), others a (suc x) xs (omega (arith, l, le)) h.2)

rise-free : (at : ℕ) (xs : List ℕ) → 0 < at → Rise at xs → AreFree [] xs
rise-free at [] l h = tt
rise-free at (a ∷ xs) l h = let le = h.0 in (omega (arith, l, le), h.1, refl, others a (suc a) xs (omega arith) h.2, rise-free (suc a) xs (omega arith) h.2)

rise-front : (n at : ℕ) (xs : List ℕ) → Rise at xs → Rise at (take n xs)
rise-front zero at xs h = tt
rise-front (suc n) at [] h = tt
rise-front (suc n) at (x ∷ xs) h = (h.0, h.1, rise-front n (suc x) xs h.2)

rise-numbers : (n at k : ℕ) → at ≤ k → k + n ≤ 2 ^ 32 → Rise at (numbers k n)
rise-numbers zero at k l u = tt
rise-numbers (suc n) at k l u = (l, omega (arith, u), rise-numbers n (suc k) (k + 1) (omega arith) (omega (arith, u)))

numbers-long : (n k : ℕ) → length (numbers k n) ≡ n
numbers-long zero k = refl
numbers-long (suc n) k = ap suc (numbers-long n (k + 1))

rise-both : (n j at : ℕ) (xs : Taken) → j ≤ at → j ≤ 2 ^ 20 + 1 → n ≤ 2 ^ 30 → StandFrom at xs → EndBelow (2 ^ 20) xs → Rise j (addresses xs ++ numbers (2 ^ 20 + 1) n)
rise-both n j at [] l u few h k = rise-numbers n j (2 ^ 20 + 1) u (omega (arith, few))
rise-both n j at (x ∷ xs) l u few h k =
    let e = h.0 in let b = k.0 in let g = grows x in
    (omega (arith, l, e), omega (arith, b), rise-both n (suc x.0) (align_to (range_end x) 8) xs (omega (arith, g)) (omega (arith, b)) few h.1 k.1)

-- as many addresses, those of the ranges first
abbrev pub reserved : ℕ → Taken → List ℕ
reserved n xs = addresses xs ++ numbers (2 ^ 20 + 1) n

pub reserved-free : (n : ℕ) (xs : Taken) → n ≤ 2 ^ 30 → AreStated xs → AreFree [] (take n (reserved n xs))
reserved-free n xs few h = rise-free 16 (take n (reserved n xs)) (omega arith) (rise-front n 16 (reserved n xs) (rise-both n 16 16 xs (omega arith) (omega arith) few h.stand h.room))

length-both : (xs ys : List ℕ) → length ys ≤ length (xs ++ ys)
length-both [] ys = omega arith
length-both (x ∷ xs) ys = let l = length-both xs ys in omega (arith, l)

pub reserved-long : (n : ℕ) (xs : Taken) → length (take n (reserved n xs)) ≡ n
reserved-long n xs =
    let l = length-both (addresses xs) (numbers (2 ^ 20 + 1) n) in
    let e = numbers-long n (2 ^ 20 + 1) in
    length-take-le n (reserved n xs) (omega (arith, l, e))
