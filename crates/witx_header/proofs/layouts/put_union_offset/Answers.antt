use Rattle.witx_header.proofs.Appending.{three}
use Rattle.witx_header.proofs.layouts.put_union_offset.Goals as goal

pub returns : goal.returns
returns c = three _ _ _ _ _ _ _ c.in_ok-put_offset_begin.ensures c.in_ok-push_str.ensures.bytes c.in_ok-put_offset_end.ensures
