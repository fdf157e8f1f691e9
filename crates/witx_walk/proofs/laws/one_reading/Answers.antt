use Rattle.witx_walk.proofs.ReadTexts.{one-reading}
use Rattle.witx_walk.proofs.laws.one_reading.Goals as goal

pub returns : goal.returns
returns c = one-reading c.at_most_one_document.ensures c.no_fault_where_read.ensures c.a_document_or_a_fault.ensures c.at_most_one_parse_fault.ensures
