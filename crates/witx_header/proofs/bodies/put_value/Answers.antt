use Rattle.witx_header.proofs.Appending.{five}
use Rattle.witx_header.proofs.bodies.put_value.Goals as goal

pub returns : goal.returns
returns c =
    five _ _ _ _ _ _ _ _ _ _ _ c.in_ok-put_place.ensures c.in_ok-put_type.ensures c.in_ok-push_str.ensures.bytes
    (rw c.as_str.ensures at c.in_ok-put_name.ensures) c.in_ok-push_str-2.ensures.bytes
