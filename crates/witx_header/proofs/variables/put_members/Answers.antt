use Rattle.std.proofs.Common.{rules}
use Rattle.witx_header.specs.Bodies.{member}
use Rattle.witx_header.proofs.Appending.{flat-more, five}
use Rattle.witx_header.proofs.variables.put_members.Goals as goal

pub loop-operand-preserved : goal.loop-operand-preserved
loop-operand-preserved c =
    flat-more member _ _ _ _ _ _ c.loop-operand-test.true (search rules)
    (five _ _ _ _ _ _ _ _ _ _ _ c.in_ok-push_str.ensures.bytes c.in_ok-put_variable.ensures c.in_ok-push_str-2.ensures.bytes
    c.in_ok-put_variable-2.ensures c.in_ok-push_str-3.ensures.bytes)
    c.loop-operand.invariant
