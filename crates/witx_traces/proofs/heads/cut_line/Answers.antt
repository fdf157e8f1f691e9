use Rattle.witx_traces.proofs.HeadLemmas.{line-cut-once}
use Rattle.witx_traces.proofs.heads.cut_line.Goals as goal

pub returns : goal.returns
returns c = line-cut-once _ _ c.split_once.ensures.cases
