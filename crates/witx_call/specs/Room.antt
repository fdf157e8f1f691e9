-- The memory of a call: bytes, and ranges at stated addresses: each begins behind the one before it, and none ends above 2^20.
use Rattle.std.specs.Prelude.{ℕ, ◌+◌, ◌^◌, [], ◌∷◌, ◌++◌, Bool, ◌&&◌, Option, Some, None, nat_le}
use Rattle.witx_ast.specs.Tree.{Tree}
use Rattle.witx_ast.specs.Plain.{plain}
use Rattle.witx_layout.specs.Numbers.{align_to}
use Rattle.witx_machine.specs.Words.{Word, i32, when}
use Rattle.witx_machine.specs.Cells.{Taken}
use Rattle.witx_bytes.specs.Bytes.{Bytes, none_held, with_zeros}
use Rattle.witx_bytes.specs.ByteMachine.{range_size}
use Rattle.witx_call.specs.Ranges.{range_end}

abbrev pub no_bytes : Bytes
no_bytes at = None

-- bytes, and the ranges that were given, with their types
pub record Room : Type 0 where
  pub bytes : Bytes
  pub taken : Taken

-- where the next range begins, the first at an address
abbrev pub next_range : ℕ → Taken → ℕ
next_range at [] = at
next_range at (x ∷ xs) = next_range (align_to (range_end x) 8) xs

abbrev pub next_address : Taken → ℕ
next_address taken = next_range 16 taken

abbrev pub is_range_place : ℕ → ℕ → Bytes → Bool
is_range_place at size m = nat_le (at + size) (2 ^ 20) && none_held at size m

-- the next address, with a range of zeros for the type
abbrev pub range_placed : Tree → ℕ → ℕ → Room → Option (Word × Room)
range_placed t at size m = when (is_range_place at size m.bytes) (Some (i32 at, record { bytes = with_zeros at size m.bytes; taken = m.taken ++ (at, t) ∷ [] }))

abbrev pub room_given : Tree → Room → Option (Word × Room)
room_given t m = range_placed t (next_address m.taken) (range_size (plain t)) m
