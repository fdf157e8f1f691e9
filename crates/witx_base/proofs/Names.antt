-- Names are told apart by their bytes, and are found in one list of entries behind another.
use Rattle.std.proofs.Common.{◌≡◌, ℕ, List, [], ◌∷◌, ◌++◌, Bool, true, false, refl, cond, Option, Some}
use Rattle.std.specs.Prelude.{◌↔◌, IsTrue}
use Rattle.std.specs.Option.{option_or}
use Rattle.std.specs.Ordering.{is_eq, nat_cmp}
use Rattle.std.specs.Cmp.Lexicographic.{slice_cmp, nat_list_eq_equiv}
use Rattle.std.proofs.lemmas.Slice.Eq.{bytes_eq-Decides}
use Rattle.std.proofs.lemmas.Map.Lookups.{exact_bytes}
use Rattle.std.proofs.lemmas.Map.Text.{is_eq-slice_cmp}
use Rattle.std.proofs.lemmas.Map.Views.{tells_apart}
use Rattle.witx_base.specs.Found.{found}
use Rattle.witx_base.specs.Texts.{same_text}

-- a map's test of a name is that of the bytes
pub same-test : (a b : List ℕ) → is_eq (slice_cmp nat_cmp a b) ≡ same_text a b
unfolding same_text
same-test a b = is_eq-slice_cmp a b

-- the same name is equal
pub same-is : (a b : List ℕ) → is_eq (slice_cmp nat_cmp a b) ≡ true → a ≡ b
same-is a b e = tells_apart exact_bytes a b e

pub same-equal : (a b : List ℕ) → IsTrue (same_text a b) ↔ (a ≡ b)
unfolding same_text
same-equal a b = bytes_eq-Decides a b

pub same-turned : (a b : List ℕ) → same_text a b ≡ same_text b a
unfolding same_text
same-turned a b = nat_list_eq_equiv.symm a b

first-or-cond : {V : Type 0} (here : Bool) (v : V) (o p q : Option V) → o ≡ option_or p q → cond here (Some v) o ≡ option_or (cond here (Some v) p) q
first-or-cond true v o p q e = refl
first-or-cond false v o p q e = e

-- what the first list has at a name, or else what the second has
pub found-append : {V : Type 0} (xs ys : List (List ℕ × V)) (n : List ℕ) → found (xs ++ ys) n ≡ option_or (found xs n) (found ys n)
found-append [] ys n = refl
found-append (x ∷ xs) ys n = first-or-cond (is_eq (slice_cmp nat_cmp n x.0)) x.1 (found (xs ++ ys) n) (found xs n) (found ys n) (found-append xs ys n)

-- the order of two names tells whether they are the same
pub ruleset order_rules = (is_eq-slice_cmp)
