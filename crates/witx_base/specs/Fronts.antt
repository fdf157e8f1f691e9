-- The numbers by which most names are told apart before their bytes are compared, the first byte greatest, with zeros
-- behind a shorter name: that of the first eight bytes, and that of the eight behind the first seven.
use Rattle.std.specs.Prelude.{ℕ, zero, suc, List, ◌+◌, ◌*◌, ◌<◌, get_or, drop}

-- each number of a text is that of a byte
abbrev pub AreBytes : List ℕ → Type 0
AreBytes xs = (k : ℕ) → get_or xs k 0 < 256

-- a number with the next bytes behind it, so many
abbrev pub with_bytes_behind : ℕ → ℕ → List ℕ → ℕ
with_bytes_behind number zero bytes = number
with_bytes_behind number (suc count) bytes = with_bytes_behind (number * 256 + get_or bytes 0 0) count (drop 1 bytes)

-- the number of the first eight bytes
abbrev pub number_of_eight : List ℕ → ℕ
number_of_eight bytes = with_bytes_behind 0 8 bytes

unfoldable pub front_of : List ℕ → ℕ
front_of bytes = number_of_eight bytes

unfoldable pub back_of : List ℕ → ℕ
back_of bytes = number_of_eight (drop 7 bytes)
