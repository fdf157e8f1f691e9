use Rattle.witx_order.proofs.Ending.{a-verdict}
use Rattle.witx_order.proofs.FinalFronts.{a-final, final-verdict, one-final}
use Rattle.witx_walk.proofs.laws.one_final_front.Goals as goal

pub returns-clause-front : goal.returns-clause-front
returns-clause-front c = λ w handed.
    let a = a-verdict w handed in
    let b = a-final w handed a.0 a.1 in
    (b.0, (a.0, (b.1, λ marks u h. one-final w handed b.0 marks a.0 u b.1 h)))

pub returns-clause-verdict : goal.returns-clause-verdict
returns-clause-verdict c = λ w handed marks v h. final-verdict w handed marks v h
