use Rattle.std.proofs.Common.{◌≡◌, ◌+◌, ◌-◌, ◌≤◌, length, drop}
use Rattle.std.specs.List.{prefix_len}
use Rattle.witx_lex.specs.Characters.{is_name_character}
use Rattle.witx_lex.proofs.run.name_end.Given as goal

-- what is left of the run
abbrev pub invariant-names : goal.invariant-names
invariant-names l = (l.end ≤ length l.bytes)
    × (l.end + prefix_len is_name_character (drop l.end l.bytes) ≡ l.at + prefix_len is_name_character (drop l.at l.bytes))

abbrev pub decreases-names : goal.decreases-names
decreases-names l = length l.bytes - l.end
