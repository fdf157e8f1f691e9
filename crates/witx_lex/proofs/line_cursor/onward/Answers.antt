use Rattle.std.proofs.Common.{arith}
use Rattle.witx_lex.proofs.LinePlaces.{column-le, feeds-le}
use Rattle.witx_lex.proofs.line_cursor.onward.Goals as goal

pub overflow_add-columns : goal.overflow_add-columns
overflow_add-columns c = omega (arith, c.requires.column, column-le c.args.bytes.now c.args.at)

pub overflow_add-lines : goal.overflow_add-lines
overflow_add-lines c = omega (arith, c.requires.line, c.feeds_between-feeds.ensures.lines, feeds-le c.args.bytes.now c.args.end)
