use Rattle.std.proofs.Common.{◌≡◌, ◌-◌, ◌≤◌, ◌==◌, length, drop}
use Rattle.std.specs.Cmp.Lexicographic.{pointwise}
use Rattle.witx_values.proofs.words.are_same.Given as goal

-- what is left is the same where the whole is
abbrev pub invariant-bytes : goal.invariant-bytes
invariant-bytes l = (l.at ≤ length l.word)
    × (pointwise ◌==◌ (drop l.at l.word) (drop l.at l.text) ≡ pointwise ◌==◌ l.word l.text)

abbrev pub decreases-bytes : goal.decreases-bytes
decreases-bytes l = length l.word - l.at
