use Rattle.std.proofs.Common.{◌≡◌, ◌+◌, ◌*◌, drop, map, option_map}
use Rattle.witx_ast.specs.Tree.{arms_of}
use Rattle.witx_ast.specs.Views.{tree_of, datatype_tree, record_tree, variant_tree, case_arm}
use Rattle.witx_layout.specs.Nodes.{type_nodes, field_nodes, arm_nodes}
use Rattle.witx_markdown.specs.Forests.{sprouted}
use Rattle.witx_docs.specs.Parts.{placed_fields, placed_nodes, case_nodes}
use Rattle.witx_docs.specs.LaidOut.{too_large, members_laid_out, cases_laid_out}
use Rattle.witx_markdown.specs.NamesKnown.{FieldNamesKnown}
use Rattle.witx_markdown.proofs.NameSteps.{LeftCasesKnown}
use Rattle.witx_docs.proofs.PartSteps.{payload_nodes}
use Rattle.witx_docs.proofs.parts.+parts.Given as goal

abbrev pub invariant-put_members-loop-layout : goal.invariant-put_members-loop-layout
invariant-put_members-loop-layout l = record {
  nodes : sprouted l.branch l.at.node (placed_nodes l.at.heading (option_map (λ id. id.now) l.at.id) l.kind (drop l.layout-index l.layouts))
      ≡ sprouted l.initial.branch l.at.node (placed_nodes l.at.heading (option_map (λ id. id.now) l.at.id) l.kind l.layouts);
  numbers : too_large (members_laid_out (placed_fields (drop l.layout-index l.layouts))) ≡ too_large (members_laid_out (placed_fields l.layouts));
  known : FieldNamesKnown l.names (placed_fields (drop l.layout-index l.layouts));
}

abbrev pub invariant-put_cases-loop-case : goal.invariant-put_cases-loop-case
invariant-put_cases-loop-case l = record {
  nodes : sprouted l.branch l.at.node (case_nodes l.at.heading (option_map (λ id. id.now) l.at.id) (arms_of (map case_arm (drop l.case-index l.cases))))
      ≡ sprouted l.initial.branch l.at.node (case_nodes l.at.heading (option_map (λ id. id.now) l.at.id) (arms_of (map case_arm l.cases)));
  numbers : too_large (cases_laid_out (arms_of (map case_arm (drop l.case-index l.cases)))) ≡ too_large (cases_laid_out (arms_of (map case_arm l.cases)));
  known : LeftCasesKnown l.names l.cases l.case-index;
}

abbrev pub decreases-put_type : goal.decreases-put_type
decreases-put_type l = 8 * type_nodes (tree_of l.tref.now) + 3

abbrev pub decreases-put_datatype : goal.decreases-put_datatype
decreases-put_datatype l = 8 * type_nodes (datatype_tree l.datatype.now) + 2

abbrev pub decreases-put_record : goal.decreases-put_record
decreases-put_record l = 8 * type_nodes (record_tree l.record_type.now) + 1

abbrev pub decreases-put_variant : goal.decreases-put_variant
decreases-put_variant l = 8 * type_nodes (variant_tree l.variant.now) + 1

abbrev pub decreases-put_members : goal.decreases-put_members
decreases-put_members l = 8 * field_nodes (placed_fields l.layouts.now) + 8

abbrev pub decreases-put_member : goal.decreases-put_member
decreases-put_member l = 8 * type_nodes (tree_of l.member.now.tref) + 7

abbrev pub decreases-put_typed : goal.decreases-put_typed
decreases-put_typed l = 8 * type_nodes (tree_of l.tref.now) + 6

abbrev pub decreases-put_cases : goal.decreases-put_cases
decreases-put_cases l = 8 * arm_nodes (arms_of (map case_arm l.cases.now)) + 8

abbrev pub decreases-put_case : goal.decreases-put_case
decreases-put_case l = 8 * payload_nodes (case_arm l.case.now).payload + 7
