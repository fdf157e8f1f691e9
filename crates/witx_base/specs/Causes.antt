-- When a device may answer that it failed: only where its count of faults rose during the call.
-- A count that stands at the last value of a `u64` can't rise any more, and counts as risen.
use Rattle.std.specs.Prelude.{ℕ, ◌+◌, ◌-◌, ◌^◌, ◌≤◌, min}

-- one more, up to the last value of a `u64`
abbrev pub one_more : ℕ → ℕ
one_more n = min (n + 1) (2 ^ 64 - 1)

-- the count rose since `before`
abbrev pub Rose : ℕ → ℕ → Type 0
Rose before now = one_more before ≤ now
