use Rattle.std.proofs.Common.{◌≡◌, ◌+◌, arith, ap, sym, ◌∙◌, map}
use Rattle.witx_ast.specs.Tree.{fields_of, arms_of}
use Rattle.witx_ast.specs.Views.{tree_of, datatype_tree, record_tree, variant_tree, member_field, case_arm}
use Rattle.witx_layout.specs.Nodes.{type_nodes, field_nodes, arm_nodes}
use Rattle.witx_layout.proofs.Onward.{next-end, next-align, bare-size, bare-align, carries-size, carries-align}
use Rattle.witx_layout.proofs.Nodes.{node_rules, in-record, in-variant, in-value, in-record-nodes, in-variant-nodes, in-value-nodes, record-nodes, variant-nodes, record-known, variant-known, member-known, members-known, member-nodes, fewer-nodes, next-nodes, within-nodes, payload-known, payload-nodes, within-arm-nodes, same-arm-nodes, fewer-arm-nodes, bare-known, bare-nodes, payloads-known, carries-nodes}
use Rattle.witx_layout.proofs.table.+tabled.Goals as goal

pub datatype_layout-record_layout-requires : goal.datatype_layout-record_layout-requires
datatype_layout-record_layout-requires g t c κs within =
    let same = in-record-nodes c.args.datatype.now c.in-Record.record c.in-Record.is in
    (omega arith, (within, in-record c.args.table.now c.args.datatype.now c.in-Record.record c.in-Record.is c.requires))

pub datatype_layout-variant_layout-requires : goal.datatype_layout-variant_layout-requires
datatype_layout-variant_layout-requires g t c κs within =
    let same = in-variant-nodes c.args.datatype.now c.in-Variant.variant c.in-Variant.is in
    (omega arith, (within, in-variant c.args.table.now c.args.datatype.now c.in-Variant.variant c.in-Variant.is c.requires))

pub type_layout-datatype_layout-requires : goal.type_layout-datatype_layout-requires
type_layout-datatype_layout-requires g t c κs within =
    let same : type_nodes (tree_of c.args.tref.now) ≡ type_nodes (datatype_tree c.deref-in-Value.result.now) =
    in-value-nodes c.args.tref.now c.in-Value.datatype c.in-Value.is ∙ ap (λ d. type_nodes (datatype_tree d)) (sym c.deref-in-Value.ensures) in
    (omega arith, (within, rw c.deref-in-Value.ensures (in-value c.args.table.now c.args.tref.now c.in-Value.datatype c.in-Value.is c.requires)))

pub record_layout-members_layout-requires : goal.record_layout-members_layout-requires
record_layout-members_layout-requires g t c κs within =
    let nodes : type_nodes (record_tree c.args.record_type.now) ≡ field_nodes (fields_of (map member_field c.as_slice.result.now)) + 1 =
    record-nodes c.args.record_type.now ∙ ap (λ ms. field_nodes (fields_of (map member_field ms)) + 1) (sym c.as_slice.ensures) in
    (omega arith, (within, rw c.as_slice.ensures (record-known c.args.table.now c.args.record_type.now c.requires)))

pub variant_layout-greatest_payload-requires : goal.variant_layout-greatest_payload-requires
variant_layout-greatest_payload-requires g t c κs within =
    let nodes : type_nodes (variant_tree c.args.variant.now) ≡ arm_nodes (arms_of (map case_arm c.as_slice.result.now)) + 1 =
    variant-nodes c.args.variant.now ∙ ap (λ cs. arm_nodes (arms_of (map case_arm cs)) + 1) (sym c.as_slice.ensures) in
    (omega arith, (within, rw c.as_slice.ensures (variant-known c.args.table.now c.args.variant.now c.requires)))

pub members_layout-type_layout-requires : goal.members_layout-type_layout-requires
members_layout-type_layout-requires g t c κs within =
    let few = member-nodes c.args.members.now c.loop-member.member-index c.member-item.result _ c.loop-member-test.true c.member-item.is c.loop-member.invariant.left in
    (omega arith, (within, member-known c.args.table.now c.args.members.now c.loop-member.member-index c.member-item.result c.loop-member-test.true c.member-item.is c.loop-member.invariant.known))

pub members_layout-returns-in_err-part-clause-most : goal.members_layout-returns-in_err-part-clause-most
members_layout-returns-in_err-part-clause-most g t c =
    within-nodes c.args.members.now c.loop-member.member-index c.member-item.result c.loop-member.steps c.type_layout.new.steps _ c.loop-member-test.true c.member-item.is c.loop-member.invariant.most c.type_layout.ensures.most

pub members_layout-returns-in_err-reached-clause-most : goal.members_layout-returns-in_err-reached-clause-most
members_layout-returns-in_err-reached-clause-most g t c =
    within-nodes c.args.members.now c.loop-member.member-index c.member-item.result c.loop-member.steps c.type_layout.new.steps _ c.loop-member-test.true c.member-item.is c.loop-member.invariant.most c.type_layout.ensures.most

pub members_layout-loop-member-preserved : goal.members_layout-loop-member-preserved
members_layout-loop-member-preserved g t c =
    let xs = c.args.members.now in
    let i = c.loop-member.member-index in
    let m = c.member-item.result in
    let here = c.loop-member-test.true in
    let is = c.member-item.is in
    let before = c.loop-member.invariant in
    let layout = c.in_ok-part.ensures.layout in
    let reached = c.in_ok-reached.ensures in
    record {
      some = omega (arith, before.some, reached.1);
      ends = rw (reached.0, layout.0, layout.1) (next-end xs i m c.loop-member.reached.size _ here is before.ends);
      aligned = rw (reached.1, layout.1) (next-align xs i m c.loop-member.reached.align _ here is before.aligned);
      left = fewer-nodes xs i m _ here is before.left;
      known = members-known c.args.table.now xs i m here is before.known;
      most = next-nodes xs i m c.loop-member.steps c.type_layout.new.steps _ here is before.most c.type_layout.ensures.most;
      least = omega (arith, before.least, c.type_layout.ensures.least);
    }

pub greatest_payload-type_layout-requires : goal.greatest_payload-type_layout-requires
greatest_payload-type_layout-requires g t c κs within =
    let few = payload-nodes c.args.cases.now c.loop-case.case-index c.case-item.result c.in-Some.tref _ c.loop-case-test.true c.case-item.is c.in-Some.is c.loop-case.invariant.left in
    (omega arith, (within, payload-known c.args.table.now c.args.cases.now c.loop-case.case-index c.case-item.result c.in-Some.tref c.loop-case-test.true c.case-item.is c.in-Some.is c.loop-case.invariant.known))

pub greatest_payload-returns-in_err-payload-clause-most : goal.greatest_payload-returns-in_err-payload-clause-most
greatest_payload-returns-in_err-payload-clause-most g t c =
    within-arm-nodes c.args.cases.now c.loop-case.case-index c.case-item.result c.in-Some.tref c.loop-case.steps c.type_layout.new.steps _ c.loop-case-test.true c.case-item.is c.in-Some.is c.loop-case.invariant.most c.type_layout.ensures.most

pub greatest_payload-loop-case-preserved-in_default : goal.greatest_payload-loop-case-preserved-in_default
greatest_payload-loop-case-preserved-in_default g t c =
    let xs = c.args.cases.now in
    let i = c.loop-case.case-index in
    let one = c.case-item.result in
    let here = c.loop-case-test.true in
    let is = c.case-item.is in
    let before = c.loop-case.invariant in
    record {
      some = before.some;
      greatest = bare-size xs i one c.loop-case.greatest.size _ here is c.in_default.is before.greatest;
      aligned = bare-align xs i one c.loop-case.greatest.align _ here is c.in_default.is before.aligned;
      left = same-arm-nodes xs i one _ here is c.in_default.is before.left;
      known = bare-known c.args.table.now xs i one here is c.in_default.is before.known;
      most = bare-nodes xs i one c.loop-case.steps _ here is c.in_default.is before.most;
      least = before.least;
    }

pub greatest_payload-loop-case-preserved : goal.greatest_payload-loop-case-preserved
greatest_payload-loop-case-preserved g t c =
    let xs = c.args.cases.now in
    let i = c.loop-case.case-index in
    let one = c.case-item.result in
    let payload = c.in-Some.tref in
    let here = c.loop-case-test.true in
    let is = c.case-item.is in
    let has = c.in-Some.is in
    let before = c.loop-case.invariant in
    let layout = c.in_ok-payload.ensures.layout in
    record {
      some = omega (arith, before.some, c.greater-in-loop-case.ensures);
      greatest = rw (c.greater.ensures, layout.0) (carries-size xs i one payload c.loop-case.greatest.size _ here is has before.greatest);
      aligned = rw (c.greater-in-loop-case.ensures, layout.1) (carries-align xs i one payload c.loop-case.greatest.align _ here is has before.aligned);
      left = fewer-arm-nodes xs i one payload _ here is has before.left;
      known = payloads-known c.args.table.now xs i one payload here is has before.known;
      most = carries-nodes xs i one payload c.loop-case.steps c.type_layout.new.steps _ here is has before.most c.type_layout.ensures.most;
      least = omega (arith, before.least, c.type_layout.ensures.least);
    }

pub datatype_layout-returns-in-Record-clause-layout : goal.datatype_layout-returns-in-Record-clause-layout
datatype_layout-returns-in-Record-clause-layout g t c = grind (arith, node_rules)

pub datatype_layout-returns-in-Record-clause-most : goal.datatype_layout-returns-in-Record-clause-most
datatype_layout-returns-in-Record-clause-most g t c = grind (arith, node_rules)

pub datatype_layout-returns-in-Record-clause-least : goal.datatype_layout-returns-in-Record-clause-least
datatype_layout-returns-in-Record-clause-least g t c = grind (arith, node_rules)

pub datatype_layout-returns-in-Variant-clause-layout : goal.datatype_layout-returns-in-Variant-clause-layout
datatype_layout-returns-in-Variant-clause-layout g t c = grind (arith, node_rules)

pub datatype_layout-returns-in-Variant-clause-most : goal.datatype_layout-returns-in-Variant-clause-most
datatype_layout-returns-in-Variant-clause-most g t c = grind (arith, node_rules)

pub datatype_layout-returns-in-Variant-clause-least : goal.datatype_layout-returns-in-Variant-clause-least
datatype_layout-returns-in-Variant-clause-least g t c = grind (arith, node_rules)

pub type_layout-returns-in-Name-clause-layout : goal.type_layout-returns-in-Name-clause-layout
type_layout-returns-in-Name-clause-layout g t c = grind (arith, node_rules)

pub type_layout-returns-in-Name-clause-most : goal.type_layout-returns-in-Name-clause-most
type_layout-returns-in-Name-clause-most g t c = grind (arith, node_rules)

pub type_layout-returns-in-Name-clause-least : goal.type_layout-returns-in-Name-clause-least
type_layout-returns-in-Name-clause-least g t c = grind (arith, node_rules)

pub type_layout-returns-in-Value-clause-layout : goal.type_layout-returns-in-Value-clause-layout
type_layout-returns-in-Value-clause-layout g t c = grind (arith, node_rules)

pub type_layout-returns-in-Value-clause-most : goal.type_layout-returns-in-Value-clause-most
type_layout-returns-in-Value-clause-most g t c = grind (arith, node_rules)

pub type_layout-returns-in-Value-clause-least : goal.type_layout-returns-in-Value-clause-least
type_layout-returns-in-Value-clause-least g t c = grind (arith, node_rules)

pub record_layout-returns-in-Bitflags-clause-layout : goal.record_layout-returns-in-Bitflags-clause-layout
record_layout-returns-in-Bitflags-clause-layout g t c = grind (arith, node_rules)

pub record_layout-returns-in-Bitflags-clause-most : goal.record_layout-returns-in-Bitflags-clause-most
record_layout-returns-in-Bitflags-clause-most g t c = grind (arith, node_rules)

pub record_layout-returns-in-Bitflags-clause-least : goal.record_layout-returns-in-Bitflags-clause-least
record_layout-returns-in-Bitflags-clause-least g t c = grind (arith, node_rules)

pub record_layout-returns-in_err-members-clause-layout : goal.record_layout-returns-in_err-members-clause-layout
record_layout-returns-in_err-members-clause-layout g t c = grind (arith, node_rules)

pub record_layout-returns-in_err-members-clause-most : goal.record_layout-returns-in_err-members-clause-most
record_layout-returns-in_err-members-clause-most g t c = grind (arith, node_rules)

pub record_layout-returns-in_err-members-clause-least : goal.record_layout-returns-in_err-members-clause-least
record_layout-returns-in_err-members-clause-least g t c = grind (arith, node_rules)

pub record_layout-padded-requires : goal.record_layout-padded-requires
record_layout-padded-requires g t c = grind (arith, node_rules)

pub record_layout-returns-clause-layout : goal.record_layout-returns-clause-layout
record_layout-returns-clause-layout g t c = grind (arith, node_rules)

pub record_layout-returns-clause-most : goal.record_layout-returns-clause-most
record_layout-returns-clause-most g t c = grind (arith, node_rules)

pub record_layout-returns-clause-least : goal.record_layout-returns-clause-least
record_layout-returns-clause-least g t c = grind (arith, node_rules)

pub variant_layout-tagged-requires-clause-tag : goal.variant_layout-tagged-requires-clause-tag
variant_layout-tagged-requires-clause-tag g t c = grind (arith, node_rules)

pub variant_layout-tagged-requires-clause-payload : goal.variant_layout-tagged-requires-clause-payload
variant_layout-tagged-requires-clause-payload g t c = grind (arith, node_rules)

pub variant_layout-returns-in_err-payload-clause-layout : goal.variant_layout-returns-in_err-payload-clause-layout
variant_layout-returns-in_err-payload-clause-layout g t c = grind (arith, node_rules)

pub variant_layout-returns-in_err-payload-clause-most : goal.variant_layout-returns-in_err-payload-clause-most
variant_layout-returns-in_err-payload-clause-most g t c = grind (arith, node_rules)

pub variant_layout-returns-in_err-payload-clause-least : goal.variant_layout-returns-in_err-payload-clause-least
variant_layout-returns-in_err-payload-clause-least g t c = grind (arith, node_rules)

pub variant_layout-returns-clause-layout : goal.variant_layout-returns-clause-layout
variant_layout-returns-clause-layout g t c = grind (arith, node_rules)

pub variant_layout-returns-clause-most : goal.variant_layout-returns-clause-most
variant_layout-returns-clause-most g t c = grind (arith, node_rules)

pub variant_layout-returns-clause-least : goal.variant_layout-returns-clause-least
variant_layout-returns-clause-least g t c = grind (arith, node_rules)

pub members_layout-followed_by-requires : goal.members_layout-followed_by-requires
members_layout-followed_by-requires g t c = grind (arith, node_rules)

pub members_layout-returns-in_err-part-clause-layout : goal.members_layout-returns-in_err-part-clause-layout
members_layout-returns-in_err-part-clause-layout g t c = grind (arith, node_rules)

pub members_layout-returns-in_err-reached-clause-layout : goal.members_layout-returns-in_err-reached-clause-layout
members_layout-returns-in_err-reached-clause-layout g t c = grind (arith, node_rules)

pub members_layout-returns-clause-layout : goal.members_layout-returns-clause-layout
members_layout-returns-clause-layout g t c = grind (arith, node_rules)

pub members_layout-returns-clause-most : goal.members_layout-returns-clause-most
members_layout-returns-clause-most g t c = grind (arith, node_rules)

pub members_layout-returns-clause-least : goal.members_layout-returns-clause-least
members_layout-returns-clause-least g t c = grind (arith, node_rules)

pub greatest_payload-returns-in_err-payload-clause-layout : goal.greatest_payload-returns-in_err-payload-clause-layout
greatest_payload-returns-in_err-payload-clause-layout g t c = grind (arith, node_rules)

pub greatest_payload-returns-clause-layout : goal.greatest_payload-returns-clause-layout
greatest_payload-returns-clause-layout g t c = grind (arith, node_rules)

pub greatest_payload-returns-clause-most : goal.greatest_payload-returns-clause-most
greatest_payload-returns-clause-most g t c = grind (arith, node_rules)

pub greatest_payload-returns-clause-least : goal.greatest_payload-returns-clause-least
greatest_payload-returns-clause-least g t c = grind (arith, node_rules)
