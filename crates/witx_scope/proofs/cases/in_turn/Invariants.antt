use Rattle.std.proofs.Common.{◌≡◌, ◌++◌, drop, map}
use Rattle.witx_ast.specs.Views.{case_arm}
use Rattle.witx_scope.specs.Trees.{arm_called}
use Rattle.witx_scope.proofs.cases.in_turn.Given as goal

abbrev pub invariant-loop-name : goal.invariant-loop-name
invariant-loop-name l = map case_arm l.made ++ map (arm_called (map case_arm l.cases)) (drop l.name-index l.names) ≡ map (arm_called (map case_arm l.cases)) l.names
