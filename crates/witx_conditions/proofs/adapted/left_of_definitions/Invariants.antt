use Rattle.witx_ast.specs.Definitions.{definition_tree}
use Rattle.witx_traces.specs.Traces.{function_number}
use Rattle.witx_conditions.proofs.Counting.{LeftAt}
use Rattle.witx_conditions.proofs.adapted.left_of_definitions.Given as goal

abbrev pub invariant-loop-definition : goal.invariant-loop-definition
invariant-loop-definition l = record { left : LeftAt definition_tree function_number l.definitions l.number l.definition-index l.left }
