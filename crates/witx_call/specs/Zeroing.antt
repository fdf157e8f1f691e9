-- Zeros that are placed in a range, where none of it is held.
use Rattle.std.specs.Prelude.{◌≡◌, ℕ, Bool, true, false}
use Rattle.witx_bytes.specs.Bytes.{Bytes, none_held, with_zeros}

abbrev pub Zeroed : ℕ → ℕ → Bytes → Bytes → Bool → Type 0
Zeroed at len m k true = (none_held at len m ≡ true) × ((x : ℕ) → k x ≡ with_zeros at len m x)
Zeroed at len m k false = none_held at len m ≡ false
