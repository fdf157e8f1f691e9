use Rattle.std.specs.Prelude.{codes, string_bytes}
use Rattle.witx_header.proofs.Appending.{five, when_pushed}
use Rattle.witx_header.proofs.values.put_define.Goals as goal

pub returns : goal.returns
returns c =
    when_pushed _ (string_bytes c.put_upper-2.new.text) (codes " ") _ _ c.push_str-3.ensures.bytes
    (five _ _ _ _ _ _ _ _ _ _ _ c.in_ok-push_str.ensures.bytes c.in_ok-put_upper.ensures c.in_ok-push_str-2.ensures.bytes
    c.in_ok-put_upper-2.ensures)
