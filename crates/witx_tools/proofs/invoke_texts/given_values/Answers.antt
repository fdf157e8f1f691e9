use Rattle.std.proofs.Common.{rules}
use Rattle.witx_tools.proofs.Calling.{line-fails}
use Rattle.witx_tools.proofs.invoke_texts.given_values.Goals as goal

pub returns-in-Err-Line-clause-stopped : goal.returns-in-Err-Line-clause-stopped
returns-in-Err-Line-clause-stopped c =
    line-fails c.args.entry.now c.deref.result.now c.args.values.now c.in-Err-Line.line _ (search rules) (c.in-Err-Line.ensures.line _ (search rules))
    c.line_stop.ensures
