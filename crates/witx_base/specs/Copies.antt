-- When a value that is made of parts is a copy: where it has the same shape and each part is a copy of its part.
use Rattle.std.specs.Prelude.{◌≡◌, ℕ, List, Option, Some, None}
use Rattle.std.specs.List.{AllZip}

-- nothing for nothing, and a copy of what is there
abbrev pub IsCopyOfOption : {T : Type 0} → (T → T → Type 0) → Option T → Option T → Type 0
IsCopyOfOption is_copy None None = Unit {0}
IsCopyOfOption is_copy None (Some made) = ⊥
IsCopyOfOption is_copy (Some value) None = ⊥
IsCopyOfOption is_copy (Some value) (Some made) = is_copy value made

-- a map's entries by name: the same names, each with a copy of its value
abbrev pub IsCopyOfEntries : {V : Type 0} → (V → V → Type 0) → List (List ℕ × V) → List (List ℕ × V) → Type 0
IsCopyOfEntries is_copy = AllZip (λ entry made. (made.0 ≡ entry.0) × is_copy entry.1 made.1)
