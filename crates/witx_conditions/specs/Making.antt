-- One more definition, or one more item of a module, and its entry.
use Rattle.std.specs.Prelude.{◌≡◌, ℕ, List, [], ◌∷◌, ◌++◌, Option, Some, None}
use Rattle.witx_ast.specs.Entries.{Fits}
use Rattle.witx_conditions.specs.OwnNames.{HaveOwnNames}

module _ {T E : Type 0} (name_of : T → Option (List ℕ)) (tree : E → T) (t : T) where
  -- its name and its entry; none where it has no name
  abbrev pub IsEntry : Option (List ℕ × E) → Type 0
  IsEntry None = name_of t ≡ None
  IsEntry (Some named) = (name_of t ≡ Some named.0) × (tree named.1 ≡ t)

  -- entries that fit definitions fit these with one more
  abbrev pub PutsOne : (old new : List (List ℕ × E)) → Type 0
  PutsOne old new = (ts : List T) → Fits name_of tree ts old → Fits name_of tree (ts ++ t ∷ []) new

  -- entries that fit definitions have the name of one more, so whatever follows, two have one name
  abbrev pub StandsTwice : (old : List (List ℕ × E)) → Type 0
  StandsTwice old = (ts : List T) → Fits name_of tree ts old → (rest : List T) → HaveOwnNames name_of (ts ++ t ∷ rest) → ⊥
