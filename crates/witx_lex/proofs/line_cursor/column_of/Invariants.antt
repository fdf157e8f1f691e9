use Rattle.std.proofs.Common.{◌≡◌, ◌+◌, ◌≤◌}
use Rattle.witx_lex.proofs.LinePlaces.{plain_len}
use Rattle.witx_lex.proofs.line_cursor.column_of.Given as goal

abbrev pub invariant-loop-start : goal.invariant-loop-start
invariant-loop-start l =
    (l.start ≤ l.end)
    × (plain_len l.bytes l.end + l.start ≡ plain_len l.bytes l.start + l.end)

abbrev pub decreases-loop-start : goal.decreases-loop-start
decreases-loop-start l = l.start
