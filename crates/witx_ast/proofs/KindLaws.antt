-- Of a list at most all items are of one kind.
use Rattle.std.specs.Prelude.{ℕ, suc, ◌≤◌, List, [], ◌∷◌, length, Option, Some, None}
use Rattle.std.proofs.Common.{arith}
use Rattle.std.specs.List.{filter_map, cons_option}

pub one-more : {Y : Type 0} (o : Option Y) (ys : List Y) (n : ℕ) → length ys ≤ n → length (cons_option o ys) ≤ suc n
one-more None ys n h = omega arith
one-more (Some y) ys n h = omega arith

pub kind-at-most : {X Y : Type 0} (h : X → Option Y) (xs : List X) → length (filter_map h xs) ≤ length xs
kind-at-most h [] = omega arith
kind-at-most h (x ∷ xs) = one-more (h x) (filter_map h xs) (length xs) (kind-at-most h xs)
