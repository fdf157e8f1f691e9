-- A test of a list, item by item: those from an index on decide.
use Rattle.std.specs.Prelude.{◌≡◌, ℕ, ◌+◌, ◌<◌, ◌≤◌, List, [], ◌∷◌, Bool, true, false, ◌&&◌, length, drop}
use Rattle.std.proofs.Common.{ap, sym, ◌∙◌, get_or}
use Rattle.std.proofs.lemmas.List.{drop_more, drop_all}

-- a test of a list of which the first item and those behind it are tested: those from an index on decide
module _ {X : Type 0} (one : X → Bool) (all : List X → Bool)
    (more : (x : X) (xs : List X) → all (x ∷ xs) ≡ one x && all xs) (none : all [] ≡ true) where
  abbrev pub From : List X → ℕ → Type 0
  From xs i = all (drop i xs) ≡ all xs

  pub step : (xs : List X) (i : ℕ) (x : X) → i < length xs → x ≡ get_or xs i x → all (drop i xs) ≡ one x && all (drop (i + 1) xs)
  step xs i x l p = ap all (drop_more xs i x l) ∙ ap (λ y. all (y ∷ drop (i + 1) xs)) (sym p) ∙ more x (drop (i + 1) xs)

  pub refused : (xs : List X) (i : ℕ) (x : X) → i < length xs → x ≡ get_or xs i x → From xs i → one x ≡ false → all xs ≡ false
  refused xs i x l p h e = sym h ∙ step xs i x l p ∙ ap (λ b. b && all (drop (i + 1) xs)) e

  pub passed : (xs : List X) (i : ℕ) (x : X) → i < length xs → x ≡ get_or xs i x → From xs i → one x ≡ true → From xs (i + 1)
  passed xs i x l p h e = ap (λ b. b && all (drop (i + 1) xs)) (sym e) ∙ sym (step xs i x l p) ∙ h

  pub ended : (xs : List X) (i : ℕ) → length xs ≤ i → From xs i → all xs ≡ true
  ended xs i l h = sym h ∙ ap all (drop_all i xs l) ∙ none
