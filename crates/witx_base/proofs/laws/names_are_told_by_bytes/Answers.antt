use Rattle.witx_base.proofs.Names.{same-equal, same-test, same-turned}
use Rattle.witx_base.proofs.laws.names_are_told_by_bytes.Goals as goal

pub returns-clause-test : goal.returns-clause-test
returns-clause-test c a b = same-test a b

pub returns-clause-equal : goal.returns-clause-equal
returns-clause-equal c a b = same-equal a b

pub returns-clause-turned : goal.returns-clause-turned
returns-clause-turned c a b = same-turned a b
