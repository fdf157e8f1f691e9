-- A total that a loop adds up, with what is left, is the sum of all.
use Rattle.std.proofs.Common.{◌≡◌, ℕ, ◌+◌, ◌<◌, ◌≤◌, List, length, get_or, drop, ap, arith}
use Rattle.std.specs.List.{sum_by}
use Rattle.std.proofs.lemmas.List.{drop_all}
use Rattle.std.proofs.lemmas.List.Sums.{sum_by-drop_more}

pub total-more : {X : Type 0} (f : X → ℕ) (xs : List X) (i : ℕ) (x : X) (total now all : ℕ) → i < length xs → x ≡ get_or xs i x → now ≡ total + f x
    → total + sum_by f (drop i xs) ≡ all → now + sum_by f (drop (i + 1) xs) ≡ all
total-more f xs i x total now all l is w e =
    let next = sum_by-drop_more f xs i x l in
    let same = ap f is in
    omega (arith, next, same, w, e)

pub total-all : {X : Type 0} (f : X → ℕ) (xs : List X) (i total all : ℕ) → length xs ≤ i → total + sum_by f (drop i xs) ≡ all → total ≡ all
total-all f xs i total all l e =
    let none = ap (sum_by f) (drop_all i xs l) in
    omega (arith, none, e)

pub ruleset total_rules = (total-more, total-all)
