use Rattle.witx_read_back.proofs.Whole.{plain_means}
use Rattle.witx_read_back.proofs.laws.printed_texts_mean_the_same.Goals as goal

pub returns : goal.returns
returns c = plain_means c.a_document_or_a_fault.ensures
