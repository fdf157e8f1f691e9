use Rattle.witx_base.proofs.Names.{found-append}
use Rattle.witx_base.proofs.laws.entries_are_found_in_turn.Goals as goal

pub returns : goal.returns
returns g c first second name = found-append first second name
