use Rattle.std.specs.Prelude.{map, option_map}
use Rattle.witx_ast.specs.Views.{tree_of, member_field, case_arm}
use Rattle.witx_scope.specs.Senses.{here_of}
use Rattle.witx_check.proofs.Onward.{row-next, fields-next, upart-next, uarm-next, choice-next, carm-next}
use Rattle.witx_check.proofs.types.+types.Goals as goal

pub checked_rows-loop-field-preserved : goal.checked_rows-loop-field-preserved
checked_rows-loop-field-preserved t c = record {
  checks = row-next (here_of c.args.scope.now) c.args.fields.now c.loop-field.field-index c.field-item.result c.loop-field.names c.introduce_mark.new.marks _ c.loop-field-test.true c.field-item.is c.loop-field.invariant.checks c.in_ok-name.ensures.ok c.in_ok-name.ensures.kept c.in_ok-tref.ensures.ok;
  parts = fields-next (here_of c.args.scope.now) c.args.fields.now c.loop-field.field-index c.field-item.result (map member_field c.loop-field.members) (map member_field c.push_member.new.members) c.in_ok-name.name (tree_of c.in_ok-tref.tref) _ c.loop-field-test.true c.field-item.is c.loop-field.invariant.parts c.in_ok-push_member.ensures c.in_ok-name.ensures.id c.in_ok-tref.ensures.tree;
}

pub union_cases-loop-i-preserved : goal.union_cases-loop-i-preserved
union_cases-loop-i-preserved t c = record {
  checks = upart-next (here_of c.args.scope.now) ((here_of c.args.scope.now).place c.args.near) c.args.types.now c.loop-i.i c.index-types-i.result _ c.loop-i-test.true c.index-types-i.is c.loop-i.invariant.checks c.in_ok-tref.ensures.ok;
  parts = uarm-next (here_of c.args.scope.now) c.args.names.now c.args.types.now c.loop-i.i c.index-types-i.result (map case_arm c.loop-i.cases) (map case_arm c.push_case.new.cases) c.in_ok-name.name (tree_of c.in_ok-tref.tref) _ c.loop-i-test.true c.index-types-i.is c.loop-i.invariant.parts c.in_ok-push_case.ensures c.in_ok-name.ensures c.in_ok-tref.ensures.tree;
}

pub variant_cases-loop-case-preserved : goal.variant_cases-loop-case-preserved
variant_cases-loop-case-preserved t c = record {
  checks = choice-next (here_of c.args.scope.now) c.args.names.now c.args.cases.now c.loop-case.case-index c.case-item.result c.loop-case.seen c.checked_case.new.seen _ c.loop-case-test.true c.case-item.is c.loop-case.invariant.checks c.in_ok-name.ensures.ok c.in_ok-tref.ensures.ok c.in_ok-name.ensures.kept;
  parts = carm-next (here_of c.args.scope.now) c.args.cases.now c.loop-case.case-index c.case-item.result (map case_arm c.loop-case.made) (map case_arm c.push_case.new.cases) c.in_ok-name.name (option_map tree_of c.in_ok-tref.tref) _ c.loop-case-test.true c.case-item.is c.loop-case.invariant.parts c.in_ok-push_case.ensures c.in_ok-name.ensures.id c.in_ok-tref.ensures.tree;
}
