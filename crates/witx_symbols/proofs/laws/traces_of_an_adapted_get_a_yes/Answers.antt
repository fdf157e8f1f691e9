use Rattle.witx_symbols.proofs.laws.traces_of_an_adapted_get_a_yes.Goals as goal
use Rattle.witx_symbols.proofs.AdaptedLemmas.{adapted_get_yes}

pub returns : goal.returns
returns c = adapted_get_yes
