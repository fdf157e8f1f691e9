use Rattle.witx_conditions.proofs.Mapping.{said-same}
use Rattle.witx_conditions.proofs.functions.are_same.Goals as goal

pub returns-clause-exact : goal.returns-clause-exact
returns-clause-exact c = said-same c.args.made c.args.mapped.now c.eq.result c.eq.ensures
