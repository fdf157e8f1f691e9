use Rattle.std.specs.Prelude.{codes, string_bytes}
use Rattle.witx_header.proofs.Appending.{five, when_pushed}
use Rattle.witx_header.proofs.lines.put_length.Goals as goal

pub returns : goal.returns
returns c =
    when_pushed _ (string_bytes c.put_variables.new.text) (codes ".len;\n") _ _ c.push_str-3.ensures.bytes
    (five _ _ _ _ _ _ _ _ _ _ _ c.in_ok-push_str.ensures.bytes c.in_ok-put_variable.ensures c.in_ok-push_str-2.ensures.bytes
    c.in_ok-put_variables.ensures)
