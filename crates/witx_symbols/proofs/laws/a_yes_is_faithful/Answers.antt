use Rattle.witx_symbols.proofs.laws.a_yes_is_faithful.Goals as goal
use Rattle.witx_symbols.proofs.Stated.{yes_means_faithful}

pub returns : goal.returns
returns c = yes_means_faithful
