use Rattle.witx_conditions.specs.NameTests.{definition_stands}
use Rattle.witx_conditions.proofs.Ordering.{EachFrom}
use Rattle.witx_conditions.proofs.documents.each_stands.Given as goal

abbrev pub invariant-loop-i : goal.invariant-loop-i
invariant-loop-i l = record { stand : EachFrom (definition_stands l.functions) l.definitions l.i }
