use Rattle.witx_traces.proofs.HeadLemmas.{stripped}
use Rattle.witx_traces.proofs.heads.behind.Goals as goal

pub returns : goal.returns
returns c = stripped _ _ _ c.strip_prefix.ensures.cases
