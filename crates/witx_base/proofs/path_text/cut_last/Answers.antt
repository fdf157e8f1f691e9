use Rattle.witx_base.proofs.Cuts.{cut-last}
use Rattle.witx_base.proofs.path_text.cut_last.Goals as goal

pub returns : goal.returns
returns c = cut-last _ _ c.rsplit_once.ensures.cases
