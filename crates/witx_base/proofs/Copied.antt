-- Where a copy of each part is equal to it, a copy of the whole is equal to it: of a list (`copied-list`),
-- of an option and of a map's entries.
use Rattle.std.specs.Prelude.{◌≡◌, ℕ, List, [], ◌∷◌, Option, Some, None, refl}
use Rattle.std.proofs.Common.{ap}
use Rattle.std.specs.List.{AllZip}
use Rattle.witx_base.specs.Copies.{IsCopyOfEntries, IsCopyOfOption}

module _ {T : Type 0} (is_copy : T → T → Type 0) (equal : (x y : T) → is_copy x y → y ≡ x) where
  pub copied-list : (items made : List T) → AllZip is_copy items made → made ≡ items
  copied-list [] [] h = refl
  copied-list [] (y ∷ ys) h = absurd h
  copied-list (x ∷ xs) [] h = absurd h
  copied-list (x ∷ xs) (y ∷ ys) h = λ i. equal x y h.0 i ∷ copied-list xs ys h.1 i

  pub copied-option : (value made : Option T) → IsCopyOfOption is_copy value made → made ≡ value
  copied-option None None h = refl
  copied-option None (Some y) h = absurd h
  copied-option (Some x) None h = absurd h
  copied-option (Some x) (Some y) h = ap (λ z. Some z) (equal x y h)

  pub copied-entries : (entries made : List (List ℕ × T)) → IsCopyOfEntries is_copy entries made → made ≡ entries
  copied-entries [] [] h = refl
  copied-entries [] (f ∷ fs) h = absurd h
  copied-entries (e ∷ es) [] h = absurd h
  copied-entries (e ∷ es) (f ∷ fs) h = λ i. (h.0.0 i, equal e.1 f.1 h.0.1 i) ∷ copied-entries es fs h.1 i
