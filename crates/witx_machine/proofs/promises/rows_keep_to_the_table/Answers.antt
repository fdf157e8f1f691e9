use Rattle.witx_machine.proofs.promises.rows_keep_to_the_table.Goals as goal
use Rattle.witx_machine.proofs.Moving.{rows_keep_to_table}

pub returns : goal.returns
returns c = rows_keep_to_table
