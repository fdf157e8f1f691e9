use Rattle.witx_bytes.proofs.scalars.+number_from.Given as goal

abbrev pub decreases-number_from : goal.decreases-number_from
decreases-number_from a = a.width
