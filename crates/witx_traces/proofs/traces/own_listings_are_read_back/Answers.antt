use Rattle.witx_traces.proofs.ReadBackEntries.{own-read-back}
use Rattle.witx_traces.proofs.traces.own_listings_are_read_back.Goals as goal

pub returns : goal.returns
returns c = own-read-back
