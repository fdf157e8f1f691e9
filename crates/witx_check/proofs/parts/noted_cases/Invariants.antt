use Rattle.std.proofs.Common.{◌≡◌, ◌++◌, drop, map, []}
use Rattle.witx_ast.specs.Views.{case_arm}
use Rattle.witx_scope.specs.Faults.{first_fault}
use Rattle.witx_scope.specs.Checks.{member_checks}
use Rattle.witx_scope.specs.Trees.{member_arm}
use Rattle.witx_scope.specs.SyntaxChecks.{member_views}
use Rattle.witx_scope.specs.Senses.{here_of}
use Rattle.witx_check.proofs.parts.noted_cases.Given as goal

abbrev pub invariant-loop-member : goal.invariant-loop-member
invariant-loop-member l = record {
  checks : first_fault (member_checks (here_of l.scope) l.names (member_views (drop l.member-index l.members))) ≡ first_fault (member_checks (here_of l.scope) [] (member_views l.members));
  parts : map case_arm l.cases ++ map member_arm (member_views (drop l.member-index l.members)) ≡ map member_arm (member_views l.members);
}
