use Rattle.witx_base.specs.Fronts.{back_of}
use Rattle.witx_base.proofs.spelling.ShortText.back.Goals as goal

pub returns : goal.returns
unfolding back_of
returns c = c.number_from.ensures
