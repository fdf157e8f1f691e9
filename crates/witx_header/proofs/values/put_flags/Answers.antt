use Rattle.witx_header.proofs.Typing.{next-flag}
use Rattle.witx_header.proofs.values.put_flags.Goals as goal

pub loop-place-preserved : goal.loop-place-preserved
loop-place-preserved c = next-flag _ _ _ _ _ _ _ _ c.loop-place-test.true c.index-members-place.is c.in_ok-put_flag.ensures c.loop-place.invariant
