use Rattle.witx_header.proofs.Appending.{three}
use Rattle.witx_header.proofs.header.put_typename.Goals as goal

pub returns-clause-lines : goal.returns-clause-lines
returns-clause-lines c =
    three _ _ _ _ _ _ _ c.in_ok-put_declared.ensures (rw c.as_str.ensures at c.in_ok-put_layout.ensures.lines) c.in_ok-put.ensures
