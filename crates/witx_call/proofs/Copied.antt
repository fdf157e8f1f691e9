-- A list copied item by item.
use Rattle.std.proofs.Common.{◌≡◌, List, [], ◌∷◌, refl}
use Rattle.std.specs.List.{AllZip}

pub copied : {A : Type 0} (xs ys : List A) → AllZip (λ a c. c ≡ a) xs ys → ys ≡ xs
copied [] [] h = refl
copied [] (y ∷ ys) h = absurd h
copied (x ∷ xs) [] h = absurd h
copied (x ∷ xs) (y ∷ ys) h = rw (h.0, copied xs ys h.1) refl
