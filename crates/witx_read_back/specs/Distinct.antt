-- Names that are distinct, told one after the other: each is none of those before it.
use Rattle.std.specs.Prelude.{◌≡◌, ℕ, Bool, false, List, [], ◌∷◌}
use Rattle.std.specs.List.{list_any}
use Rattle.std.specs.Ordering.{is_eq, nat_cmp}
use Rattle.std.specs.Cmp.Lexicographic.{slice_cmp}

-- the name is one of the names
abbrev pub any_same : List ℕ → List (List ℕ) → Bool
any_same n seen = list_any (λ m. is_eq (slice_cmp nat_cmp n m)) seen

-- each name is new behind those seen and those before it
abbrev pub AllNew : List (List ℕ) → List (List ℕ) → Type 0
AllNew seen [] = Unit {0}
AllNew seen (n ∷ ns) = (any_same n seen ≡ false) × AllNew (n ∷ seen) ns
