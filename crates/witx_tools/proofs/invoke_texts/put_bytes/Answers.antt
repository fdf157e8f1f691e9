use Rattle.std.proofs.Common.{rules, string_bytes}
use Rattle.witx_bytes.specs.Bytes.{held}
use Rattle.witx_tools.proofs.Ranges.{bytes-end, bytes-more}
use Rattle.witx_tools.proofs.invoke_texts.put_bytes.Goals as goal

pub loop-i-preserved : goal.loop-i-preserved
loop-i-preserved c =
    bytes-more (held c.args.memory.now) c.args.range.at c.args.range.len c.loop-i.i (string_bytes c.loop-i.text) _ _ c.loop-i-test.true (search rules)
    c.loop-i.invariant

pub returns : goal.returns
returns c =
    bytes-end (held c.args.memory.now) c.args.range.at c.args.range.len c.loop-i.i (string_bytes c.loop-i.text) _ c.loop-i-test.false c.loop-i.invariant
