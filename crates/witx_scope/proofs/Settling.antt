-- A name that is declared counts as refused before another one is.
use Rattle.std.specs.Prelude.{◌≡◌, ◌||◌, ◌==◌, ℕ, List, Option, Some, Bool, true, false, cond}
use Rattle.std.specs.Option.{is_some}
use Rattle.std.specs.Ordering.{is_eq, nat_cmp}
use Rattle.std.specs.Cmp.Lexicographic.{pointwise, slice_cmp}
use Rattle.std.proofs.Common.{refl, sym, ap, ◌∙◌}
use Rattle.std.proofs.lemmas.Map.Text.{is_eq-slice_cmp}
use Rattle.witx_base.specs.Found.{found}
use Rattle.witx_scope.specs.Introduced.{is_named}
use Rattle.witx_scope.specs.Positions.{is_same_name}
use Rattle.witx_scope.proofs.Steps.{is_eq-swap}

-- the test of a name
pub named-test : (m n : List ℕ) (o : Option (List ℕ)) → o ≡ Some m → pointwise ◌==◌ n m ≡ is_named o n
named-test m n o e = sym (ap (λ x. is_named x n) e ∙ is_eq-slice_cmp n m)

pub is_some-pick : {V : Type 0} (t : Bool) (v : V) (o : Option V) → is_some (cond t (Some v) o) ≡ (t || is_some o)
is_some-pick true v o = refl
is_some-pick false v o = refl

twice : (a b : Bool) → (a || (a || b)) ≡ (a || b)
twice true b = refl
twice false b = refl

module _ {V : Type 0} (old new : List (List ℕ × V)) (m : List ℕ) (v : V) (more : (q : List ℕ) → found new q ≡ cond (is_eq (slice_cmp nat_cmp m q)) (Some v) (found old q)) (o : Option (List ℕ)) (is : o ≡ Some m) where
  -- the declared name is refused too
  pub refused-more : (n : List ℕ) → is_some (found new n) ≡ (is_named o n || is_some (found old n))
  refused-more n =
      ap is_some (more n)
      ∙ (ap (λ t. is_some (cond t (Some v) (found old n))) (is_eq-swap m n)
      ∙ (is_some-pick (is_same_name n m) v (found old n)
      ∙ sym (ap (λ x. is_named x n || is_some (found old n)) is)))

  -- so that as many names as before are not finished
  pub settled : (n : List ℕ) → (is_named o n || is_some (found new n)) ≡ (is_named o n || is_some (found old n))
  settled n = ap (λ t. is_named o n || t) (refused-more n) ∙ twice (is_named o n) (is_some (found old n))

pub ruleset settling_rules = (named-test)
