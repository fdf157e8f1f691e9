-- What a loop has written, with the texts of the items still to come, is what it is to write in all.
use Rattle.std.proofs.Common.{◌≡◌, ℕ, ◌+◌, ◌<◌, ◌≤◌, List, ◌∷◌, ◌++◌, length, get_or, drop, sym, ap, ◌∙◌, append_assoc, append-nil}
use Rattle.std.proofs.lemmas.List.{drop_more, drop_all}
use Rattle.std.specs.List.{flat_map}

pub flat-more : {A : Type 0} (f : A → List ℕ) (xs : List A) (n : ℕ) (x : A) (done now total : List ℕ) → (n < length xs) × (x ≡ get_or xs n x) → now ≡ done ++ f x
    → done ++ flat_map f (drop n xs) ≡ total → now ++ flat_map f (drop (n + 1) xs) ≡ total
flat-more f xs n x done now total h p e =
    ap (λ s. s ++ flat_map f (drop (n + 1) xs)) p ∙ append_assoc done (f x) (flat_map f (drop (n + 1) xs))
    ∙ ap (λ ys. done ++ flat_map f ys) (ap (λ y. y ∷ drop (n + 1) xs) h.1 ∙ sym (drop_more xs n x h.0)) ∙ e

pub flat-end : {A : Type 0} (f : A → List ℕ) (xs : List A) (n : ℕ) (done total : List ℕ) → length xs ≤ n → done ++ flat_map f (drop n xs) ≡ total → done ≡ total
flat-end f xs n done total l e = sym (append-nil done) ∙ ap (λ ys. done ++ flat_map f ys) (sym (drop_all n xs l)) ∙ e

pub ruleset appending_rules = (flat-more, flat-end)
