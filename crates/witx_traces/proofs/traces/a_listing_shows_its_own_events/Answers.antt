use Rattle.witx_traces.proofs.OwnListing.{own-listing}
use Rattle.witx_traces.proofs.traces.a_listing_shows_its_own_events.Goals as goal

pub returns : goal.returns
returns c = own-listing
