use Rattle.std.proofs.Common.{◌≡◌, ◌<◌, max, drop}
use Rattle.witx_ast.specs.Views.{members_plain, cases_plain}
use Rattle.witx_layout.specs.Numbers.{members_end, members_align, payloads_size, payloads_align}
use Rattle.witx_layout.proofs.layout.+layout.Given as goal

abbrev pub invariant-members_layout-loop-member : goal.invariant-members_layout-loop-member
invariant-members_layout-loop-member l = record {
  some : 0 < l.reached.align;
  ends : members_end l.reached.size (members_plain (drop l.member-index l.members)) ≡ members_end 0 (members_plain l.members);
  aligned : max l.reached.align (members_align (members_plain (drop l.member-index l.members))) ≡ members_align (members_plain l.members);
}

abbrev pub invariant-greatest_payload-loop-case : goal.invariant-greatest_payload-loop-case
invariant-greatest_payload-loop-case l = record {
  some : 0 < l.greatest.align;
  greatest : max l.greatest.size (payloads_size (cases_plain (drop l.case-index l.cases))) ≡ payloads_size (cases_plain l.cases);
  aligned : max l.greatest.align (payloads_align (cases_plain (drop l.case-index l.cases))) ≡ payloads_align (cases_plain l.cases);
}
