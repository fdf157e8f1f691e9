use Rattle.std.specs.Prelude.{map}
use Rattle.witx_ast.specs.Views.{tree_of}
use Rattle.witx_ast.specs.Functions.{param_field}
use Rattle.witx_scope.specs.Senses.{here_of}
use Rattle.witx_check.proofs.Onward.{row-next, fields-next}
use Rattle.witx_check.proofs.Params.{scope-next}
use Rattle.witx_check.proofs.functions.checked_params.Goals as goal

pub loop-field-preserved : goal.loop-field-preserved
loop-field-preserved c = record {
  checks = row-next (here_of c.args.scope.now) c.args.fields.now c.loop-field.field-index c.field-item.result c.loop-field.names c.introduce_mark.new.marks _ c.loop-field-test.true c.field-item.is c.loop-field.invariant.checks c.in_ok-name.ensures.ok c.in_ok-name.ensures.kept c.in_ok-tref.ensures.ok;
  parts = fields-next (here_of c.args.scope.now) c.args.fields.now c.loop-field.field-index c.field-item.result (map param_field c.loop-field.params) (map param_field c.push_param.new.params) c.in_ok-name.name (tree_of c.in_ok-tref.tref) _ c.loop-field-test.true c.field-item.is c.loop-field.invariant.parts c.in_ok-push_param.ensures c.in_ok-name.ensures.id c.in_ok-tref.ensures.tree;
  scope = λ q. scope-next (here_of c.args.scope.now) c.args.fields.now c.loop-field.field-index c.field-item.result c.loop-field.names c.introduce_mark.new.marks q _ c.loop-field-test.true c.field-item.is (c.loop-field.invariant.scope q) c.in_ok-name.ensures.kept;
}
