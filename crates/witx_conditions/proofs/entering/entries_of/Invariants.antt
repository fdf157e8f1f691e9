use Rattle.witx_conditions.proofs.Making.{FitsTo}
use Rattle.witx_conditions.proofs.entering.entries_of.Given as goal

abbrev pub invariant-loop-definition : goal.invariant-loop-definition
invariant-loop-definition g l =
    record { fits : FitsTo g.D.Defined.name_of g.D.Defined.tree g.D.Defined.view l.definitions l.definition-index l.entries }
