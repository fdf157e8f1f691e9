use Rattle.std.proofs.Common.{◌≡◌, ◌+◌, ◌≤◌}
use Rattle.witx_lex.proofs.LinePlaces.{feeds}
use Rattle.witx_lex.proofs.line_cursor.feeds_between.Given as goal

abbrev pub invariant-loop-index : goal.invariant-loop-index
invariant-loop-index l =
    (feeds l.bytes l.index ≡ feeds l.bytes l.at + l.feeds)
    × (l.feeds + l.at ≤ l.index)
