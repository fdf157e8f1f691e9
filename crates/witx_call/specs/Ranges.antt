-- Where the ranges of a call stand: their addresses are stated.
-- The first begins at 16, each other at the end of the one before, rounded up to a multiple of 8; a range has its type's size, and at least one byte.
use Rattle.std.specs.Prelude.{◌≡◌, ℕ, ◌+◌, ◌^◌, ◌≤◌, List, [], ◌∷◌, map}
use Rattle.witx_ast.specs.Tree.{Tree}
use Rattle.witx_ast.specs.Plain.{plain}
use Rattle.witx_layout.specs.Numbers.{align_to}
use Rattle.witx_machine.specs.Cells.{Taken}
use Rattle.witx_bytes.specs.ByteMachine.{range_size}

-- the address behind the last byte of a range
abbrev pub range_end : ℕ × Tree → ℕ
range_end x = x.0 + range_size (plain x.1)

-- ranges one behind the other, the first of them at an address
abbrev pub StandFrom : ℕ → Taken → Type 0
StandFrom at [] = Unit {0}
StandFrom at (x ∷ xs) = (x.0 ≡ at) × StandFrom (align_to (range_end x) 8) xs

abbrev pub EndBelow : ℕ → Taken → Type 0
EndBelow limit [] = Unit {0}
EndBelow limit (x ∷ xs) = (range_end x ≤ limit) × EndBelow limit xs

-- THE STATED RANGES: the first begins at 16, and none ends above 2^20
pub record AreStated (taken : Taken) : Type 0 where
  pub stand : StandFrom 16 taken
  pub room : EndBelow (2 ^ 20) taken

abbrev pub addresses : Taken → List ℕ
addresses taken = map (λ x. x.0) taken

-- the ranges alone, each by its address and its length
abbrev pub ranges : Taken → List (ℕ × ℕ)
ranges taken = map (λ x. (x.0, range_size (plain x.1))) taken
