use Rattle.witx_docs.proofs.Grown.{sprouted-four}
use Rattle.witx_docs.proofs.parts.put_layout.Goals as goal

pub returns : goal.returns
returns c =
    rw (c.in_ok-put_number-3.ensures, c.in_ok-put_number-2.ensures, c.in_ok-put_number.ensures, c.in_ok-put_section.ensures) (sprouted-four _ _ _ _ _ _)
