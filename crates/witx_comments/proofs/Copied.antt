-- A list of texts copied one by one has the same texts.
use Rattle.std.specs.Prelude.{◌≡◌, ℕ, List, [], ◌∷◌, map}
use Rattle.std.proofs.Common.{refl}
use Rattle.std.specs.List.{AllZip}
use Rattle.std.specs.Borrow.{Bor}

pub copied_texts : (xs ys : List (Bor (List ℕ))) → AllZip (λ text made. made ≡ text) xs ys → map (λ t. t.now) ys ≡ map (λ t. t.now) xs
copied_texts [] [] h = refl
copied_texts [] (y ∷ ys) h = absurd h
copied_texts (x ∷ xs) [] h = absurd h
copied_texts (x ∷ xs) (y ∷ ys) h = rw (h.0, copied_texts xs ys h.1) refl
