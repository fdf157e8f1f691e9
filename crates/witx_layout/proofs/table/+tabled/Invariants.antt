use Rattle.std.proofs.Common.{◌≡◌, ◌<◌, ◌≤◌, ◌+◌, ◌*◌, max, drop, map}
use Rattle.witx_ast.specs.Tree.{fields_of, arms_of}
use Rattle.witx_ast.specs.Views.{tree_of, datatype_tree, record_tree, variant_tree, member_field, case_arm, members_plain, cases_plain}
use Rattle.witx_layout.specs.Numbers.{members_end, members_align, payloads_size, payloads_align}
use Rattle.witx_layout.specs.Nodes.{type_nodes, field_nodes, arm_nodes}
use Rattle.witx_layout.proofs.Nodes.{left_nodes, left_arm_nodes, LeftKnown, LeftArmsKnown}
use Rattle.witx_layout.proofs.table.+tabled.Given as goal

abbrev pub decreases-type_layout : goal.decreases-type_layout
decreases-type_layout g l = 4 * type_nodes (tree_of l.tref.now) + 3

abbrev pub decreases-datatype_layout : goal.decreases-datatype_layout
decreases-datatype_layout g l = 4 * type_nodes (datatype_tree l.datatype.now) + 2

abbrev pub decreases-record_layout : goal.decreases-record_layout
decreases-record_layout g l = 4 * type_nodes (record_tree l.record_type.now) + 1

abbrev pub decreases-variant_layout : goal.decreases-variant_layout
decreases-variant_layout g l = 4 * type_nodes (variant_tree l.variant.now) + 1

abbrev pub decreases-members_layout : goal.decreases-members_layout
decreases-members_layout g l = 4 * field_nodes (fields_of (map member_field l.members.now)) + 4

abbrev pub decreases-greatest_payload : goal.decreases-greatest_payload
decreases-greatest_payload g l = 4 * arm_nodes (arms_of (map case_arm l.cases.now)) + 4

abbrev pub invariant-members_layout-loop-member : goal.invariant-members_layout-loop-member
invariant-members_layout-loop-member g l = record {
  some : 0 < l.reached.align;
  ends : members_end l.reached.size (members_plain (drop l.member-index l.members)) ≡ members_end 0 (members_plain l.members);
  aligned : max l.reached.align (members_align (members_plain (drop l.member-index l.members))) ≡ members_align (members_plain l.members);
  left : left_nodes l.members l.member-index ≤ left_nodes l.members 0;
  known : LeftKnown l.table l.members l.member-index;
  most : l.steps + left_nodes l.members l.member-index ≤ l.initial.steps + left_nodes l.members 0;
  least : l.initial.steps ≤ l.steps;
}

abbrev pub invariant-greatest_payload-loop-case : goal.invariant-greatest_payload-loop-case
invariant-greatest_payload-loop-case g l = record {
  some : 0 < l.greatest.align;
  greatest : max l.greatest.size (payloads_size (cases_plain (drop l.case-index l.cases))) ≡ payloads_size (cases_plain l.cases);
  aligned : max l.greatest.align (payloads_align (cases_plain (drop l.case-index l.cases))) ≡ payloads_align (cases_plain l.cases);
  left : left_arm_nodes l.cases l.case-index ≤ left_arm_nodes l.cases 0;
  known : LeftArmsKnown l.table l.cases l.case-index;
  most : l.steps + left_arm_nodes l.cases l.case-index ≤ l.initial.steps + left_arm_nodes l.cases 0;
  least : l.initial.steps ≤ l.steps;
}
