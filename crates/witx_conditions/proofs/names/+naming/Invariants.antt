use Rattle.std.specs.Prelude.{map}
use Rattle.witx_ast.specs.Definitions.{definition_tree}
use Rattle.witx_conditions.proofs.Naming.{MembersFrom, CasesFrom}
use Rattle.witx_conditions.proofs.names.+naming.Given as goal

abbrev pub invariant-members_stand-loop-member : goal.invariant-members_stand-loop-member
invariant-members_stand-loop-member l = MembersFrom (map definition_tree l.before) l.members l.member-index

abbrev pub invariant-cases_stand-loop-case : goal.invariant-cases_stand-loop-case
invariant-cases_stand-loop-case l = CasesFrom (map definition_tree l.before) l.cases l.case-index
