use Rattle.std.proofs.Common.{◌≡◌, ◌+◌, arith, ap, sym, ◌∙◌, map}
use Rattle.witx_ast.specs.Tree.{fields_of, arms_of}
use Rattle.witx_ast.specs.Views.{tree_of, datatype_tree, record_tree, variant_tree, member_field, case_arm}
use Rattle.witx_layout.specs.Nodes.{type_nodes, field_nodes, arm_nodes}
use Rattle.witx_layout.proofs.Onward.{next-end, next-align, bare-size, bare-align, carries-size, carries-align}
use Rattle.witx_layout.proofs.Nodes.{in-record-nodes, in-variant-nodes, in-value-nodes, record-nodes, variant-nodes, member-nodes, fewer-nodes, payload-nodes, same-arm-nodes, fewer-arm-nodes}
use Rattle.witx_markdown.proofs.NameSteps.{value-in, record-in, variant-in, members-in, cases-in, member-in, members-left, payload-in, cases-left, bare-left}
use Rattle.witx_markdown.proofs.known_layout.+layouts.Goals as goal

pub datatype_layout-record_layout-requires : goal.datatype_layout-record_layout-requires
datatype_layout-record_layout-requires t c =
    let same = in-record-nodes c.args.datatype.now c.in-Record.record c.in-Record.is in
    (omega arith, record-in c.args.names c.args.datatype.now c.in-Record.record c.in-Record.is c.requires)

pub datatype_layout-variant_layout-requires : goal.datatype_layout-variant_layout-requires
datatype_layout-variant_layout-requires t c =
    let same = in-variant-nodes c.args.datatype.now c.in-Variant.variant c.in-Variant.is in
    (omega arith, variant-in c.args.names c.args.datatype.now c.in-Variant.variant c.in-Variant.is c.requires)

pub type_layout-datatype_layout-requires : goal.type_layout-datatype_layout-requires
type_layout-datatype_layout-requires t c =
    let same : type_nodes (tree_of c.args.tref.now) ≡ type_nodes (datatype_tree c.deref-in-Value.result.now) =
    in-value-nodes c.args.tref.now c.in-Value.datatype c.in-Value.is ∙ ap (λ d. type_nodes (datatype_tree d)) (sym c.deref-in-Value.ensures) in
    (omega arith, rw c.deref-in-Value.ensures (value-in c.args.names c.args.tref.now c.in-Value.datatype c.in-Value.is c.requires))

pub record_layout-members_layout-requires : goal.record_layout-members_layout-requires
record_layout-members_layout-requires t c =
    let nodes : type_nodes (record_tree c.args.record_type.now) ≡ field_nodes (fields_of (map member_field c.as_slice.result.now)) + 1 =
    record-nodes c.args.record_type.now ∙ ap (λ ms. field_nodes (fields_of (map member_field ms)) + 1) (sym c.as_slice.ensures) in
    (omega arith, rw c.as_slice.ensures (members-in c.args.names c.args.record_type.now c.requires))

pub variant_layout-greatest_payload-requires : goal.variant_layout-greatest_payload-requires
variant_layout-greatest_payload-requires t c =
    let nodes : type_nodes (variant_tree c.args.variant.now) ≡ arm_nodes (arms_of (map case_arm c.as_slice.result.now)) + 1 =
    variant-nodes c.args.variant.now ∙ ap (λ cs. arm_nodes (arms_of (map case_arm cs)) + 1) (sym c.as_slice.ensures) in
    (omega arith, rw c.as_slice.ensures (cases-in c.args.names c.args.variant.now c.requires))

pub members_layout-type_layout-requires : goal.members_layout-type_layout-requires
members_layout-type_layout-requires t c =
    let few = member-nodes c.args.members.now c.loop-member.member-index c.member-item.result _ c.loop-member-test.true c.member-item.is c.loop-member.invariant.left in
    (omega arith, member-in c.args.names c.args.members.now c.loop-member.member-index c.member-item.result c.loop-member-test.true c.member-item.is c.loop-member.invariant.known)

pub members_layout-loop-member-preserved : goal.members_layout-loop-member-preserved
members_layout-loop-member-preserved t c = record {
  some = omega (arith, c.loop-member.invariant.some, c.in_ok-reached.ensures.2);
  ends = rw (c.in_ok-reached.ensures.1, c.in_ok-part.ensures.0, c.in_ok-part.ensures.1)
      (next-end c.args.members.now c.loop-member.member-index c.member-item.result c.loop-member.reached.size _ c.loop-member-test.true c.member-item.is c.loop-member.invariant.ends);
  aligned = rw (c.in_ok-reached.ensures.2, c.in_ok-part.ensures.1)
      (next-align c.args.members.now c.loop-member.member-index c.member-item.result c.loop-member.reached.align _ c.loop-member-test.true c.member-item.is c.loop-member.invariant.aligned);
  left = fewer-nodes c.args.members.now c.loop-member.member-index c.member-item.result _ c.loop-member-test.true c.member-item.is c.loop-member.invariant.left;
  known = members-left c.args.names c.args.members.now c.loop-member.member-index c.member-item.result c.loop-member-test.true c.member-item.is c.loop-member.invariant.known;
}

pub greatest_payload-type_layout-requires : goal.greatest_payload-type_layout-requires
greatest_payload-type_layout-requires t c =
    let few = payload-nodes c.args.cases.now c.loop-case.case-index c.case-item.result c.in-Some.tref _ c.loop-case-test.true c.case-item.is c.in-Some.is c.loop-case.invariant.left in
    (omega arith, payload-in c.args.names c.args.cases.now c.loop-case.case-index c.case-item.result c.in-Some.tref c.loop-case-test.true c.case-item.is c.in-Some.is c.loop-case.invariant.known)

pub greatest_payload-loop-case-preserved-in_default : goal.greatest_payload-loop-case-preserved-in_default
greatest_payload-loop-case-preserved-in_default t c = record {
  some = c.loop-case.invariant.some;
  greatest = bare-size c.args.cases.now c.loop-case.case-index c.case-item.result c.loop-case.greatest.size _ c.loop-case-test.true c.case-item.is c.in_default.is c.loop-case.invariant.greatest;
  aligned = bare-align c.args.cases.now c.loop-case.case-index c.case-item.result c.loop-case.greatest.align _ c.loop-case-test.true c.case-item.is c.in_default.is c.loop-case.invariant.aligned;
  left = same-arm-nodes c.args.cases.now c.loop-case.case-index c.case-item.result _ c.loop-case-test.true c.case-item.is c.in_default.is c.loop-case.invariant.left;
  known = bare-left c.args.names c.args.cases.now c.loop-case.case-index c.case-item.result c.loop-case-test.true c.case-item.is c.in_default.is c.loop-case.invariant.known;
}

pub greatest_payload-loop-case-preserved : goal.greatest_payload-loop-case-preserved
greatest_payload-loop-case-preserved t c = record {
  some = omega (arith, c.loop-case.invariant.some, c.greater-in-loop-case.ensures);
  greatest = rw (c.greater.ensures, c.in_ok-payload.ensures.0)
      (carries-size c.args.cases.now c.loop-case.case-index c.case-item.result c.in-Some.tref c.loop-case.greatest.size _ c.loop-case-test.true c.case-item.is c.in-Some.is c.loop-case.invariant.greatest);
  aligned = rw (c.greater-in-loop-case.ensures, c.in_ok-payload.ensures.1)
      (carries-align c.args.cases.now c.loop-case.case-index c.case-item.result c.in-Some.tref c.loop-case.greatest.align _ c.loop-case-test.true c.case-item.is c.in-Some.is c.loop-case.invariant.aligned);
  left = fewer-arm-nodes c.args.cases.now c.loop-case.case-index c.case-item.result c.in-Some.tref _ c.loop-case-test.true c.case-item.is c.in-Some.is c.loop-case.invariant.left;
  known = cases-left c.args.names c.args.cases.now c.loop-case.case-index c.case-item.result c.in-Some.tref c.loop-case-test.true c.case-item.is c.in-Some.is c.loop-case.invariant.known;
}
