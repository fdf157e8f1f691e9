-- The test of bytes for equality, and what it tells, by which the laws of `==` of trees are proved.
use Rattle.std.specs.Prelude.{◌≡◌, ℕ, List, Bool, true, false, ◌&&◌, ◌==◌, refl}
use Rattle.std.specs.Cmp.Lexicographic.{pointwise}
use Rattle.std.proofs.Common.{rules, sym}

-- the same bytes, one by one; unfolded wherever it stands, as `same_text` is not
abbrev pub same_bytes : List ℕ → List ℕ → Bool
same_bytes = pointwise ◌==◌

pub bytes-to : (xs ys : List ℕ) → same_bytes xs ys ≡ true → xs ≡ ys
bytes-to xs ys h = search rules

pub bytes-self : (xs : List ℕ) → same_bytes xs xs ≡ true
bytes-self xs = search rules

pub false-true : false ≡ true → ⊥
false-true h = cc

-- what a conjunction that holds says of its parts
pub both : (a b : Bool) → a && b ≡ true → (a ≡ true) × (b ≡ true)
both true b h = (refl, h)
both false b h = absurd (false-true h)

-- tests of which each holds where the other does are the same
pub bool-iff : (a b : Bool) → (a ≡ true → b ≡ true) → (b ≡ true → a ≡ true) → a ≡ b
bool-iff true true f g = refl
bool-iff true false f g = sym (f refl)
bool-iff false true f g = g refl
bool-iff false false f g = refl
