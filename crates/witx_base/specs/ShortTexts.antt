-- When bytes in place hold a text: it is the first `len` of them, at most 15, and zeros stand behind it, so that its
-- numbers are those of the whole place.
use Rattle.std.specs.Prelude.{◌≡◌, ◌≤◌, ℕ, List, get_or, take}
use Rattle.std.specs.Str.{IsUtf8}

pub record IsShortText (bytes : List ℕ) (len : ℕ) : Type 0 where
  pub short : len ≤ 15
  pub utf8 : IsUtf8 (take len bytes)
  pub zeros : (k : ℕ) → get_or bytes k 0 ≡ get_or (take len bytes) k 0
