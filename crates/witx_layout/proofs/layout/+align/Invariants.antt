use Rattle.std.proofs.Common.{◌≡◌, ◌<◌, max, drop}
use Rattle.witx_ast.specs.Views.{members_plain, cases_plain}
use Rattle.witx_layout.specs.Numbers.{members_align, payloads_align}
use Rattle.witx_layout.proofs.layout.+align.Given as goal

abbrev pub invariant-greatest_member_align-loop-member : goal.invariant-greatest_member_align-loop-member
invariant-greatest_member_align-loop-member l = record {
  some : 0 < l.greatest;
  aligned : max l.greatest (members_align (members_plain (drop l.member-index l.members))) ≡ members_align (members_plain l.members);
}

abbrev pub invariant-greatest_payload_align-loop-case : goal.invariant-greatest_payload_align-loop-case
invariant-greatest_payload_align-loop-case l = record {
  some : 0 < l.greatest;
  aligned : max l.greatest (payloads_align (cases_plain (drop l.case-index l.cases))) ≡ payloads_align (cases_plain l.cases);
}
