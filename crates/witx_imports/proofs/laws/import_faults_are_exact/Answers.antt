use Rattle.witx_imports.proofs.Exact.{only_faults, all_faults, in_order}
use Rattle.witx_imports.proofs.laws.import_faults_are_exact.Goals as goal

pub returns-clause-only : goal.returns-clause-only
returns-clause-only c = only_faults

pub returns-clause-all : goal.returns-clause-all
returns-clause-all c = all_faults

pub returns-clause-ordered : goal.returns-clause-ordered
returns-clause-ordered c = in_order
