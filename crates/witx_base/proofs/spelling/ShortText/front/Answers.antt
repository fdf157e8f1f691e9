use Rattle.witx_base.specs.Fronts.{front_of}
use Rattle.witx_base.proofs.spelling.ShortText.front.Goals as goal

pub returns : goal.returns
unfolding front_of
returns c = c.number_from.ensures
