use Rattle.witx_traces.proofs.HeadLemmas.{word-cut-once}
use Rattle.witx_traces.proofs.heads.cut_word.Goals as goal

pub returns : goal.returns
returns c = word-cut-once _ _ c.split_once.ensures.cases
