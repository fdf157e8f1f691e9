-- A walk over a list of names finds the first place of a name; a new name behind the others is found as if it stood
-- before them.
use Rattle.std.specs.Prelude.{◌≡◌, ◌∷◌, ◌++◌, [], ◌+◌, ◌<◌, ◌≤◌, ◌==◌, ℕ, List, Option, Some, None, Bool, true, false, length, drop, cond}
use Rattle.std.specs.Cmp.Lexicographic.{pointwise, nat_list_eq_equiv}
use Rattle.std.specs.Option.{option_or}
use Rattle.std.proofs.Common.{refl, sym, ap, subst, get_or, ◌∙◌}
use Rattle.std.proofs.lemmas.List.{drop_more, drop_all}
use Rattle.std.proofs.lemmas.Map.Text.{is_eq-slice_cmp}
use Rattle.witx_base.specs.Found.{found}
use Rattle.witx_base.proofs.Names.{found-append, same-is}
use Rattle.witx_scope.specs.Positions.{is_same_name}

module _ {V : Type 0} where
  next-name : (names : List (List ℕ × V)) (i : ℕ) (e : List ℕ × V) (n : List ℕ) (b : Bool) → i < length names → e ≡ get_or names i e → pointwise ◌==◌ e.0 n ≡ b
      → found (drop i names) n ≡ cond b (Some e.1) (found (drop (i + 1) names) n)
  next-name names i e n b l p t =
      ap (λ xs. found xs n) (drop_more names i e l ∙ ap (λ x. x ∷ drop (i + 1) names) (sym p))
      ∙ ap (λ same. cond same (Some e.1) (found (drop (i + 1) names) n)) (is_eq-slice_cmp n e.0 ∙ nat_list_eq_equiv.symm n e.0 ∙ t)

  pub name-found : (names : List (List ℕ × V)) (i : ℕ) (e : List ℕ × V) (n : List ℕ) (x : Option V) → i < length names → e ≡ get_or names i e → pointwise ◌==◌ e.0 n ≡ true
      → found (drop i names) n ≡ x → Some e.1 ≡ x
  name-found names i e n x l p t h = sym (next-name names i e n true l p t) ∙ h

  pub name-passed : (names : List (List ℕ × V)) (i : ℕ) (e : List ℕ × V) (n : List ℕ) (x : Option V) → i < length names → e ≡ get_or names i e → pointwise ◌==◌ e.0 n ≡ false
      → found (drop i names) n ≡ x → found (drop (i + 1) names) n ≡ x
  name-passed names i e n x l p t h = sym (next-name names i e n false l p t) ∙ h

  pub no-name-left : (names : List (List ℕ × V)) (i : ℕ) (n : List ℕ) (x : Option V) → length names ≤ i → found (drop i names) n ≡ x → None ≡ x
  no-name-left names i n x l h = sym (ap (λ xs. found xs n) (drop_all i names l)) ∙ h

-- ---- a name more

behind-at : {V : Type 0} (o : Option V) (same : Bool) (v : V) → (same ≡ true → o ≡ None) → option_or o (cond same (Some v) None) ≡ cond same (Some v) o
behind-at None true v h = refl
behind-at None false v h = refl
behind-at (Some p) true v h = absurd (let e = h refl in cc)
behind-at (Some p) false v h = refl

pub behind-is-before : {V : Type 0} (old : List (List ℕ × V)) (n q : List ℕ) (at : V) → found old n ≡ None → found (old ++ (n, at) ∷ []) q ≡ found ((n, at) ∷ old) q
behind-is-before old n q at new =
    found-append old ((n, at) ∷ []) q
    ∙ behind-at (found old q) (is_same_name q n) at (λ same. subst (λ (x : List ℕ). found old x ≡ None) (sym (same-is q n same)) new)

pub ruleset behind_rules = (behind-is-before)
