use Rattle.witx_machine.proofs.promises.a_run_has_at_most_one_outcome.Goals as goal
use Rattle.witx_machine.proofs.OutcomeLaws.{at_most_one_outcome}

pub returns : goal.returns
returns c = at_most_one_outcome
