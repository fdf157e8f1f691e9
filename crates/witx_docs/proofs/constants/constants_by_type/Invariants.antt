use Rattle.witx_docs.proofs.Standing.{StandUpTo}
use Rattle.witx_docs.proofs.constants.constants_by_type.Given as goal

abbrev pub invariant-loop-definition : goal.invariant-loop-definition
invariant-loop-definition l = StandUpTo l.definitions l.definition-index l.constants.entries
