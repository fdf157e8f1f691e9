use Rattle.witx_base.proofs.Cuts.{cut-first}
use Rattle.witx_base.proofs.path_text.cut_first.Goals as goal

pub returns : goal.returns
returns c = cut-first _ _ c.split_once.ensures.cases
