use Rattle.witx_header.proofs.Appending.{three}
use Rattle.witx_header.proofs.layouts.put_layout.Goals as goal

pub returns-clause-lines : goal.returns-clause-lines
returns-clause-lines c =
    let layout = c.in_ok-layout.ensures.exact in
    three _ _ _ _ _ _ _ (rw layout.0 at c.in_ok-put_size.ensures) (rw layout.1 at c.in_ok-put_align.ensures) c.in_ok-put_offsets.ensures.lines
