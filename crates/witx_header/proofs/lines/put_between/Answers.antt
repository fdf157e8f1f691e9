use Rattle.witx_header.proofs.Appending.{three}
use Rattle.witx_header.proofs.lines.put_between.Goals as goal

pub returns : goal.returns
returns c = three _ _ _ _ _ _ _ c.in_ok-push_str.ensures.bytes c.in_ok-put_variables.ensures c.in_ok-push_str-2.ensures.bytes
