use Rattle.witx_header.proofs.Numbered.{next-offset}
use Rattle.witx_header.proofs.layouts.put_each_offset.Goals as goal

pub loop-layout-preserved : goal.loop-layout-preserved
loop-layout-preserved c =
    next-offset _ _ _ _ _ _ _ c.loop-layout-test.true c.layout-item.is (rw c.as_str.ensures at c.in_ok-put_member_offset.ensures) c.loop-layout.invariant
