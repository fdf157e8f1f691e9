-- One name more in a scope.
use Rattle.std.specs.Prelude.{◌≡◌, ℕ, List, ◌∷◌, Some, cond}
use Rattle.std.proofs.Common.{refl}
use Rattle.std.specs.declared.cmp.Ordering.{Ordering}
use Rattle.std.specs.declared.cmp.Ordering.TheVariants.{Less, Equal, Greater}
use Rattle.std.specs.Ordering.{is_eq, nat_cmp, ordering_reverse}
use Rattle.std.specs.Cmp.Lexicographic.{slice_cmp, nat_list_cmp_total}
use Rattle.witx_base.specs.Found.{found}
use Rattle.witx_ast.proofs.Trees.{tree_rules}

-- functions that answer alike are equal
pub funext : {A B : Type 0} {f g : A → B} → ((x : A) → f x ≡ g x) → f ≡ g
funext e = λ i x. e x i

-- a name and another are compared in either order
is_eq-reverse : (o : Ordering) → is_eq (ordering_reverse o) ≡ is_eq o
is_eq-reverse Less = refl
is_eq-reverse Equal = refl
is_eq-reverse Greater = refl

pub is_eq-swap : (a b : List ℕ) → is_eq (slice_cmp nat_cmp a b) ≡ is_eq (slice_cmp nat_cmp b a)
is_eq-swap a b = rw (nat_list_cmp_total.antisymm a b) (is_eq-reverse _)

-- a table with a name more answers as the list with that name first
pub found-more : {V : Type 0} (old new : List (List ℕ × V)) (k q : List ℕ) (p : V)
    → found new q ≡ cond (is_eq (slice_cmp nat_cmp k q)) (Some p) (found old q)
    → found new q ≡ found ((k, p) ∷ old) q
found-more old new k q p e = rw (is_eq-swap k q) at e

pub ruleset step_rules = (found-more, tree_rules)
