use Rattle.witx_symbols.proofs.laws.a_stuck_run_names_its_event.Goals as goal
use Rattle.witx_symbols.proofs.Named.{runs_name_places}

pub returns : goal.returns
returns c = runs_name_places
