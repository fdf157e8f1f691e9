use Rattle.std.proofs.Common.{◌≡◌, ◌∙◌, arith, sym, map, false}
use Rattle.std.specs.Prelude.{option_map}
use Rattle.witx_ast.specs.Views.{case_arm}
use Rattle.witx_ast.specs.Words.{is_bool_arms}
use Rattle.witx_ast.specs.declared.types.Variant.{out-Variant}
use Rattle.witx_ast.proofs.Trees.{tree-RecordDatatype}
use Rattle.witx_docs.proofs.Grown.{sprouted-followed, sprouted-three, then-sprouted}
use Rattle.witx_docs.proofs.PartNames.{case-in, placed-in}
use Rattle.witx_docs.proofs.PartSteps.{all-cases, all-members, case-few, member-few, variant-parts}
use Rattle.witx_docs.proofs.parts.+parts.Goals as goal

pub put_cases-put_case-requires : goal.put_cases-put_case-requires
put_cases-put_case-requires t c =
    let few = case-few c.args.cases.now c.loop-case.case-index c.case-item.result c.loop-case-test.true c.case-item.is in
    (omega arith, case-in c.args.names c.args.cases.now c.loop-case.case-index c.case-item.result c.loop-case-test.true c.case-item.is c.loop-case.invariant.known)

pub put_members-put_member-requires : goal.put_members-put_member-requires
put_members-put_member-requires t c =
    let few = member-few c.args.layouts.now c.loop-layout.layout-index c.layout-item.result c.loop-layout-test.true c.layout-item.is in
    (omega arith, placed-in c.args.names c.args.layouts.now c.loop-layout.layout-index c.layout-item.result c.loop-layout-test.true c.layout-item.is c.loop-layout.invariant.known)

pub put_cases-returns-clause-nodes : goal.put_cases-returns-clause-nodes
put_cases-returns-clause-nodes t c =
    all-cases c.loop-case.branch c.args.at.now.node _ c.args.at.now.heading (option_map (λ id. id.now) c.args.at.now.id) c.args.cases.now c.loop-case.case-index
    (omega arith) c.loop-case.invariant.nodes

pub put_members-returns-clause-nodes : goal.put_members-returns-clause-nodes
put_members-returns-clause-nodes t c =
    all-members c.loop-layout.branch c.args.at.now.node _ c.args.at.now.heading (option_map (λ id. id.now) c.args.at.now.id) c.args.kind c.args.layouts.now c.loop-layout.layout-index
    (omega arith) c.loop-layout.invariant.nodes

pub put_record-returns-clause-nodes : goal.put_record-returns-clause-nodes
put_record-returns-clause-nodes t c =
    then-sprouted c.put_members.result c.put_members.new.branch _ _ c.put_members.ensures.nodes
    (rw (c.as_slice.ensures, c.in_ok-layouts.ensures.members, c.in_ok-layouts.ensures.begins, c.in_ok-put_section.ensures, tree-RecordDatatype c.args.record_type.now)
    (sprouted-followed _ _ _ _))

pub put_variant-returns-clause-nodes : goal.put_variant-returns-clause-nodes
put_variant-returns-clause-nodes t c =
    let other : is_bool_arms (map case_arm (out-Variant c.args.variant.now).cases) ≡ false = sym c.is_bool.ensures ∙ c.if-is_bool.false in
    then-sprouted c.put_cases.result c.put_cases.new.branch _ _ c.put_cases.ensures.nodes
    (rw (
      c.as_slice.ensures,
      c.in_ok-put_section.ensures,
      c.in_ok-put_layout_if.ensures.nodes,
      variant-parts c.args.at.now.heading (option_map (λ id. id.now) c.args.at.now.id) c.args.variant.now other,
    ) (sprouted-three _ _ _ _ _))
