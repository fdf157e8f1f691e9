use Rattle.witx_traces.proofs.OneTrace.{one-trace}
use Rattle.witx_traces.proofs.traces.a_text_gives_at_most_one_list_of_traces.Goals as goal

pub returns : goal.returns
returns c = one-trace
