use Rattle.std.proofs.Common.{◌≡◌, ◌++◌, drop, map, []}
use Rattle.witx_ast.specs.Views.{member_field}
use Rattle.witx_scope.specs.Faults.{first_fault}
use Rattle.witx_scope.specs.Checks.{member_checks}
use Rattle.witx_scope.specs.Trees.{flag_field}
use Rattle.witx_scope.specs.SyntaxChecks.{member_views}
use Rattle.witx_scope.specs.Senses.{here_of}
use Rattle.witx_check.proofs.parts.noted_flags.Given as goal

abbrev pub invariant-loop-flag : goal.invariant-loop-flag
invariant-loop-flag l = record {
  checks : first_fault (member_checks (here_of l.scope) l.names (member_views (drop l.flag-index l.flags))) ≡ first_fault (member_checks (here_of l.scope) [] (member_views l.flags));
  parts : map member_field l.members ++ map flag_field (member_views (drop l.flag-index l.flags)) ≡ map flag_field (member_views l.flags);
}
