use Rattle.witx_docs.proofs.Judging.{large-none}
use Rattle.witx_docs.proofs.markdown.HandleDatatypeParts.put_parts.Goals as goal

pub returns-clause-refusal : goal.returns-clause-refusal
returns-clause-refusal c = rw large-none c.put_handle.ensures.refusal
