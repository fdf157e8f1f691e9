-- How the slots of a trace are read: with their addresses, the newest first.
use Rattle.std.specs.Prelude.{ℕ, List, map, reverse, Option, Some, None, option_map, slice_get}

module _ {w W : Type 0} (word : w → W) where
  abbrev pub given_slots : List (ℕ × w) → List (ℕ × W)
  given_slots xs = map (λ s. (s.0, word s.1)) (reverse xs)

-- the address at a place, if a place is known
abbrev pub address_at : {w : Type 0} → List (ℕ × w) → Option ℕ → Option w
address_at xs None = None
address_at xs (Some i) = option_map (λ p. p.1) (slice_get xs i)
