use Rattle.std.proofs.Common.{◌≡◌, ◌+◌, ◌-◌, ◌≤◌, List, length, drop}
use Rattle.std.specs.List.{flat_map}
use Rattle.witx_lex.specs.Pieces.{Part, part_spelling, part_value}
use Rattle.witx_lex.specs.Faults.{StringParts}
use Rattle.witx_lex.proofs.string.read_string.Given as goal

abbrev pub invariant-loop-at : goal.invariant-loop-at
invariant-loop-at l = (l.bytes ≡ l.text) × (l.at ≤ length l.text)
    × ((ps : List Part) × StringParts ps (drop 1 l.text) (drop l.at l.text) × (l.out.items ≡ flat_map part_value ps) × (l.at ≡ 1 + length (flat_map part_spelling ps)))

abbrev pub decreases-loop-at : goal.decreases-loop-at
decreases-loop-at l = length l.text - l.at
