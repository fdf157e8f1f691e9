use Rattle.witx_ast.proofs.MisfitLaws.{type-none, document-none}
use Rattle.witx_ast.proofs.laws.misfits_are_exact.Goals as goal

pub returns-clause-types : goal.returns-clause-types
returns-clause-types c = type-none

pub returns-clause-documents : goal.returns-clause-documents
returns-clause-documents c = document-none
