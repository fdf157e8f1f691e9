use Rattle.witx_read_back.proofs.Whole.{plain_reads}
use Rattle.witx_read_back.proofs.laws.printed_texts_read_as_the_tree.Goals as goal

pub returns : goal.returns
returns c = plain_reads c.a_document_or_a_fault.ensures
