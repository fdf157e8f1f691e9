-- What is counted of the parts of a sample's adapted document: they are those of its definitions.
use Rattle.std.proofs.Common.{◌≡◌, ℕ, ◌*◌, List, [], ◌∷◌, length, map, sum_by, refl, sym, ap, ◌∙◌, arith}
use Rattle.std.proofs.lemmas.List.{length-map}
use Rattle.std.proofs.lemmas.List.Sums.{sum_by-cons}
use Rattle.witx_ast.specs.Definitions.{DefinitionTree}
use Rattle.witx_adapt.specs.Entries.{Entry, entry_for, all_functions}
use Rattle.witx_sample_laws.proofs.Counts.{IsSample, entry_events, sample_functions}

-- a sum over parts is that over what they are seen as, where each adds as much
pub sum_seen : {A B : Type 0} (f : A → ℕ) (g : B → ℕ) (see : A → B) → ((x : A) → f x ≡ g (see x)) → (xs : List A) → sum_by f xs ≡ sum_by g (map see xs)
sum_seen f g see h [] = refl
sum_seen f g see h (x ∷ xs) = omega (arith, sum_by-cons f x xs, sum_by-cons g (see x) (map see xs), h x, sum_seen f g see h xs)

-- functions that are seen as the entries of a sample
pub functions_counted : {A : Type 0} (n : ℕ) (ds : List DefinitionTree) (see : A → Entry) (events : A → ℕ) (fs : List A) → IsSample n ds → map see fs ≡ map entry_for (all_functions ds)
    → ((f : A) → events f ≡ entry_events (see f)) → (length fs ≡ n) × (sum_by events fs ≡ 42 * n)
functions_counted n ds see events fs s e h =
    let c = sample_functions n ds s in (
      sym (length-map fs see) ∙ (ap (λ (l : List Entry). length l) e ∙ (length-map (all_functions ds) entry_for ∙ c.0)),
      sum_seen events entry_events see h fs ∙ (ap (λ (l : List Entry). sum_by entry_events l) e ∙ c.1),
    )
