-- A table of all bytes is held against a test, byte by byte, by computing.
use Rattle.std.proofs.Common.{◌≡◌, ℕ, zero, suc, ◌<◌, Bool, true, false, not, List, [], ◌∷◌, refl, arith, inl, inr}
use Rattle.std.specs.Prelude.{if◌then◌else◌}
use Rattle.std.specs.List.{list_all}
use Rattle.std.proofs.lemmas.Bool.{and_parts, cases_eq}

-- the numbers below a bound, from the last to the first
abbrev pub below : ℕ → List ℕ
below zero = []
below (suc n) = n ∷ below n

-- two tests answer alike
abbrev pub alike : (ℕ → Bool) → (ℕ → Bool) → ℕ → Bool
alike f g b = if f b then g b else not (g b)

same_answer : (x y : Bool) → (if x then y else not y) ≡ true → x ≡ y
same_answer true true h = refl
same_answer true false h = cc
same_answer false true h = cc
same_answer false false h = refl

-- tests that answer alike at each number below a bound are the same below it
pub alike_below : (f g : ℕ → Bool) (n b : ℕ) → list_all (alike f g) (below n) ≡ true → b < n → f b ≡ g b
alike_below f g zero b h lt = absurd (omega arith)
alike_below f g (suc n) b h lt =
    let parts = and_parts (alike f g n) (list_all (alike f g) (below n)) h in
    elim (cases_eq b n) [
      | inl e ↦ rw e (same_answer (f n) (g n) parts.0)
      | inr other ↦ alike_below f g n b parts.1 (omega arith)
    ]
