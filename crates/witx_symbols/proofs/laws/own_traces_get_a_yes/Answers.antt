use Rattle.witx_symbols.proofs.laws.own_traces_get_a_yes.Goals as goal
use Rattle.witx_symbols.proofs.Stated.{own_get_yes}

pub returns : goal.returns
returns c = own_get_yes
