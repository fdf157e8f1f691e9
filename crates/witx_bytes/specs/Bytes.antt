-- A memory of bytes: which byte stands at an address, if one does.
-- A range of it is held where each of its bytes stands, and free where none does; ranges begin above 0 and end within 2^32.
use Rattle.std.specs.Prelude.{◌≡◌, ℕ, zero, suc, ◌+◌, ◌/◌, ◌%◌, ◌^◌, ◌<◌, ◌≤◌, List, [], ◌∷◌, Bool, true, false, ◌&&◌, cond, ◌⊎◌, length, Option, Some, None, is_some, is_none, slice_index_or, nat_eq, nat_lt, nat_le}
use Rattle.std.specs.Ordering.{nat_cmp}
use Rattle.std.specs.Map.{lookup}
use Rattle.std.specs.BTreeMap.{is_at}

abbrev pub Bytes : Type 0
Bytes = ℕ → Option ℕ

-- each byte is a number below 2^8
abbrev pub AreBytes : Bytes → Type 0
AreBytes m = (at b : ℕ) → m at ≡ Some b → b < 2 ^ 8

-- what a value sets, in order: a byte, or nothing at padding
abbrev pub Image : Type 0
Image = List (Option ℕ)

-- from an address on stand the bytes that the image has; where it has none anything or nothing may stand
abbrev pub Agrees : Bytes → ℕ → Image → Type 0
Agrees m at [] = Unit {0}
Agrees m at (None ∷ more) = Agrees m (suc at) more
Agrees m at (Some b ∷ more) = (m at ≡ Some b) × Agrees m (suc at) more

-- the memory once an image is written from an address on: exactly the bytes that the image has are set
abbrev pub image_written : ℕ → Image → Bytes → Bytes
image_written at [] m x = m x
image_written at (None ∷ more) m x = image_written (suc at) more m x
image_written at (Some b ∷ more) m x = cond (nat_eq x at) (Some b) (image_written (suc at) more m x)

-- the memory with zeros in a range
abbrev pub with_zeros : ℕ → ℕ → Bytes → Bytes
with_zeros at len m x = cond (nat_le at x && nat_lt x (at + len)) (Some 0) (m x)

abbrev pub in_bounds : ℕ → ℕ → Bool
in_bounds at len = nat_lt 0 at && nat_le (at + len) (2 ^ 32)

abbrev pub all_held : ℕ → ℕ → Bytes → Bool
all_held at zero m = true
all_held at (suc len) m = is_some (m at) && all_held (suc at) len m

abbrev pub none_held : ℕ → ℕ → Bytes → Bool
none_held at zero m = true
none_held at (suc len) m = is_none (m at) && none_held (suc at) len m

-- the byte is there, or none is, as is asked; and the same of each place of a range
abbrev pub stands_as : (wanted : Bool) → Option ℕ → Bool
stands_as true = is_some
stands_as false = is_none

abbrev pub all_stand : (wanted : Bool) → ℕ → ℕ → Bytes → Bool
all_stand true = all_held
all_stand false = none_held

-- the range is within bounds, and all of its bytes are held
abbrev pub holds : ℕ → ℕ → Bytes → Bool
holds at len m = in_bounds at len && all_held at len m

-- the range is within bounds, and none of its bytes is held
abbrev pub is_free : ℕ → ℕ → Bytes → Bool
is_free at len m = in_bounds at len && none_held at len m

-- what stands at the places of a block, from 0 on; past its end stands nothing
abbrev pub block_bytes : List (Option ℕ) → Bytes
block_bytes bytes i = slice_index_or bytes i None

-- blocks of 256 places, each with its number
abbrev pub Blocks : Type 0
Blocks = List (ℕ × List (Option ℕ))

abbrev pub block_of : ℕ → Blocks → Option (List (Option ℕ))
block_of number blocks = lookup (is_at (nat_cmp number)) blocks

abbrev pub HasBlock : ℕ → Blocks → Type 0
HasBlock number blocks = is_some (block_of number blocks) ≡ true

-- each block with a number from the first up to another is there
abbrev pub HasBlocks : ℕ → ℕ → Blocks → Type 0
HasBlocks first end blocks = (n : ℕ) → first ≤ n → n < end → HasBlock n blocks

abbrev pub in_block : ℕ → Option (List (Option ℕ)) → Option ℕ
in_block i None = None
in_block i (Some bytes) = block_bytes bytes i

-- the memory of these blocks: an address lies in the block whose number is a 256th of it, at the place that is left
abbrev pub held : Blocks → Bytes
held blocks at = in_block (at % 256) (block_of (at / 256) blocks)

-- this is what stands from an address on, as far as it reaches
abbrev pub HoldsAt : List (Option ℕ) → ℕ → Bytes → Type 0
HoldsAt run at m = (i : ℕ) → i < length run → m (at + i) ≡ block_bytes run i

-- what stands from an address to the end of its block, or nothing where no byte of that block is held
pub record RunAt (at : ℕ) (run : List (Option ℕ)) (m : Bytes) : Type 0 where
  pub stands : HoldsAt run at m
  pub free : length run ≡ 0 → (i : ℕ) → at % 256 + i < 256 → m (at + i) ≡ None
  pub long : 0 < length run → at % 256 + length run ≡ 256

-- from m, the bytes from an address up to another are what is given, and all others are as they were
pub record Filled (from end : ℕ) (o : Option ℕ) (m k : Bytes) : Type 0 where
  pub inside : (y : ℕ) → from ≤ y → y < end → k y ≡ o
  pub outside : (y : ℕ) → (y < from) ⊎ (end ≤ y) → k y ≡ m y

-- each byte from an address up to another is held
abbrev pub AreHeld : ℕ → ℕ → Bytes → Type 0
AreHeld from end m = (x : ℕ) → from ≤ x → x < end → is_some (m x) ≡ true

-- what stands is a byte, at an address below 2^32
abbrev pub IsByteMemory : Bytes → Type 0
IsByteMemory m = (at b : ℕ) → m at ≡ Some b → (at < 2 ^ 32) × (b < 2 ^ 8)
