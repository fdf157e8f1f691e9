use Rattle.witx_header.proofs.Appending.{four}
use Rattle.witx_header.proofs.bodies.put_side.Goals as goal

pub returns : goal.returns
returns c =
    four _ _ _ _ _ _ _ _ _ c.in_ok-push_str.ensures.bytes c.in_ok-put_values.ensures (rw c.as_slice.ensures at c.in_ok-put_lines.ensures)
    c.in_ok-push_str-2.ensures.bytes
