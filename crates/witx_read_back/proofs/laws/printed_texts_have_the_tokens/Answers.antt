use Rattle.witx_read_back.proofs.Whole.{plain_has_tokens}
use Rattle.witx_read_back.proofs.laws.printed_texts_have_the_tokens.Goals as goal

pub returns : goal.returns
returns c = plain_has_tokens c.a_document_or_a_fault.ensures
