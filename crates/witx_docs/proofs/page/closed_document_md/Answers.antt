use Rattle.witx_docs.proofs.page.closed_document_md.Goals as goal

pub page_of-requires : goal.page_of-requires
page_of-requires c = c.in_ok-layouts.ensures.known
