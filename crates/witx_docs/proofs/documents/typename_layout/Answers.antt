use Rattle.std.proofs.Common.{arith}
use Rattle.witx_docs.proofs.Judging.{large-one, small-one}
use Rattle.witx_docs.proofs.documents.typename_layout.Goals as goal

pub returns-in-Ok-clause-refusal : goal.returns-in-Ok-clause-refusal
returns-in-Ok-clause-refusal c = small-one _ (omega (arith, c.in-Ok.ensures.0))

pub returns-in-Err-clause-refusal : goal.returns-in-Err-clause-refusal
returns-in-Err-clause-refusal c = large-one _ c.in-Err.ensures
