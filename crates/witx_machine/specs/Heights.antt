-- How many operands are at hand along a list of events, so that each step has those that it takes.
-- A step takes its operands and leaves its results; the end of a block takes the operand that it leaves.
-- For whoever hands a generator each instruction with its operands: a list of events that has heights can be played.
use Rattle.std.specs.Prelude.{ℕ, ◌+◌, ◌-◌, List, [], ◌∷◌, cond, nat_le, Option, Some, None, option_and_then}
use Rattle.witx_machine.specs.Events.{Event, emit, space, push, finish}
use Rattle.witx_machine.specs.Rows.{operands_count, results_count}

abbrev pub moved : ℕ → ℕ → ℕ → Option ℕ
moved takes leaves n = cond (nat_le takes n) (Some (n - takes + leaves)) None

abbrev pub height_after : Event → ℕ → Option ℕ
height_after (emit x) n = moved (operands_count x) (results_count x) n
height_after (space k t) n = Some n
height_after push n = Some n
height_after (finish v) n = moved (cond v 1 0) 0 n

-- none where a step would lack operands
abbrev pub heights : List Event → ℕ → Option ℕ
heights [] n = Some n
heights (e ∷ es) n = option_and_then (λ m. heights es m) (height_after e n)
