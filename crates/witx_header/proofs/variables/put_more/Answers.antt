use Rattle.std.proofs.Common.{rules}
use Rattle.witx_header.specs.Bodies.{behind_comma}
use Rattle.witx_header.proofs.Appending.{flat-more, two}
use Rattle.witx_header.proofs.variables.put_more.Goals as goal

pub loop-variable-preserved : goal.loop-variable-preserved
loop-variable-preserved c =
    flat-more behind_comma _ _ _ _ _ _ c.loop-variable-test.true (search rules)
    (two _ _ _ _ _ c.in_ok-push_str.ensures.bytes c.in_ok-put_variable.ensures)
    c.loop-variable.invariant
