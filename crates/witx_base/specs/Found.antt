-- A map keyed by names is seen as the list of its entries, in the order of the names' bytes.
-- What it holds at a name is the value of the entry with that very name.
use Rattle.std.specs.Prelude.{ℕ, List, Option}
use Rattle.std.specs.Ordering.{is_eq, nat_cmp}
use Rattle.std.specs.Cmp.Lexicographic.{slice_cmp}
use Rattle.std.specs.Map.{lookup}

abbrev pub found : {V : Type 0} → List (List ℕ × V) → List ℕ → Option V
found entries name = lookup (λ key. is_eq (slice_cmp nat_cmp name key)) entries
