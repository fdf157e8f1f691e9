use Rattle.witx_grammar.proofs.Verdicts.{one_fault}
use Rattle.witx_grammar.proofs.laws.at_most_one_fault.Goals as goal

pub returns : goal.returns
returns g c gr f at place expected kinds ts a b = one_fault gr f ts at place expected kinds a b
