use Rattle.std.proofs.Common.{◌≡◌}
use Rattle.witx_layout.proofs.Misfitting.{left_members, left_cases}
use Rattle.witx_layout.proofs.tags.+tags.Given as goal

abbrev pub invariant-members_fit-loop-member : goal.invariant-members_fit-loop-member
invariant-members_fit-loop-member l = left_members l.members l.member-index ≡ left_members l.members 0

abbrev pub invariant-cases_fit-loop-case : goal.invariant-cases_fit-loop-case
invariant-cases_fit-loop-case l = left_cases l.cases l.case-index ≡ left_cases l.cases 0
