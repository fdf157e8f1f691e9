use Rattle.witx_conditions.proofs.Looking.{CalledFrom}
use Rattle.witx_conditions.proofs.lookup.typename_in.Given as goal

abbrev pub invariant-loop-definition : goal.invariant-loop-definition
invariant-loop-definition l = record { called : CalledFrom l.before l.name l.definition-index }
