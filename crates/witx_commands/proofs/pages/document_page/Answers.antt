use Rattle.witx_commands.proofs.Noting.{page-stops}
use Rattle.witx_commands.proofs.pages.document_page.Goals as goal

pub returns-in-Err-clause-refused : goal.returns-in-Err-clause-refused
returns-in-Err-clause-refused c = page-stops _ c.in-Err.error c.page_stop.result c.in-Err.ensures.refusal c.page_stop.ensures
