use Rattle.witx_run.proofs.machine.return_items.Goals as goal

pub returns-in-Outside-clause-performs : goal.returns-in-Outside-clause-performs
returns-in-Outside-clause-performs g c = rw c.in-Outside.is c.answer_with.ensures.performs
