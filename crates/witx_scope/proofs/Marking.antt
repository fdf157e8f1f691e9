-- Names in a map and a list behind it: what is found, and a name more.
use Rattle.std.specs.Prelude.{◌≡◌, ℕ, List, [], ◌∷◌, ◌++◌, Option, Some, None, Bool, true, false, cond}
use Rattle.std.proofs.Common.{refl, sym, ap, ◌∙◌, append_assoc}
use Rattle.std.specs.Option.{option_or}
use Rattle.std.specs.Ordering.{is_eq, nat_cmp}
use Rattle.std.specs.Cmp.Lexicographic.{slice_cmp}
use Rattle.witx_base.specs.Found.{found}
use Rattle.witx_base.proofs.Names.{found-append}
use Rattle.witx_scope.proofs.Earlier.{behind-is-before}
use Rattle.witx_scope.proofs.Steps.{found-more}

-- what the map has at a name is found,
pub found-in-map : {V : Type 0} (more few : List (List ℕ × V)) (n : List ℕ) (v : V) → Some v ≡ found more n → Some v ≡ found (more ++ few) n
found-in-map more few n v e = ap (λ o. option_or o (found few n)) e ∙ sym (found-append more few n)

-- and else what the list has
pub found-in-list : {V : Type 0} (more few : List (List ℕ × V)) (n : List ℕ) (o : Option V) → None ≡ found more n → o ≡ found few n → o ≡ found (more ++ few) n
found-in-list more few n o e h = h ∙ ap (λ p. option_or p (found few n)) e ∙ sym (found-append more few n)

pub one-more-in-list : {V : Type 0} (more few : List (List ℕ × V)) (n q : List ℕ) (v : V) → found (more ++ few) n ≡ None
    → found (more ++ (few ++ (n, v) ∷ [])) q ≡ found ((n, v) ∷ (more ++ few)) q
one-more-in-list more few n q v new = ap (λ xs. found xs q) (sym (append_assoc more few ((n, v) ∷ []))) ∙ behind-is-before (more ++ few) n q v new

before-list : {V : Type 0} (here : Bool) (v : V) (o p : Option V) → option_or (cond here (Some v) o) p ≡ cond here (Some v) (option_or o p)
before-list true v o p = refl
before-list false v o p = refl

pub one-more-in-map : {V : Type 0} (more now few : List (List ℕ × V)) (n q : List ℕ) (v : V)
    → found now q ≡ cond (is_eq (slice_cmp nat_cmp n q)) (Some v) (found more q)
    → found (now ++ few) q ≡ found ((n, v) ∷ (more ++ few)) q
one-more-in-map more now few n q v e =
    found-more (more ++ few) (now ++ few) n q v
    (found-append now few q ∙ ap (λ o. option_or o (found few q)) e
    ∙ before-list (is_eq (slice_cmp nat_cmp n q)) v (found more q) (found few q)
    ∙ ap (λ o. cond (is_eq (slice_cmp nat_cmp n q)) (Some v) o) (sym (found-append more few q)))

pub ruleset marking_rules = (found-in-map, found-in-list, one-more-in-list, one-more-in-map)
