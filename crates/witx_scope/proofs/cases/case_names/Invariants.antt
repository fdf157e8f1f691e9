use Rattle.std.proofs.Common.{◌≡◌, ◌++◌, drop, map}
use Rattle.witx_ast.specs.Tree.{arms_of}
use Rattle.witx_ast.specs.Views.{case_arm}
use Rattle.witx_scope.specs.Tags.{arm_names}
use Rattle.witx_scope.proofs.cases.case_names.Given as goal

abbrev pub invariant-loop-case : goal.invariant-loop-case
invariant-loop-case l = l.names ++ arm_names (arms_of (map case_arm (drop l.case-index l.cases))) ≡ arm_names (arms_of (map case_arm l.cases))
