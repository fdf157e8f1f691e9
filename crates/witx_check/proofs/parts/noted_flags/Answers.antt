use Rattle.std.specs.Prelude.{map}
use Rattle.std.proofs.Common.{◌∙◌}
use Rattle.witx_ast.specs.Views.{member_field, tree_of}
use Rattle.witx_scope.specs.Senses.{here_of}
use Rattle.witx_check.proofs.Onward.{noted-next, noted_flags-next}
use Rattle.witx_check.proofs.parts.noted_flags.Goals as goal

pub loop-flag-preserved : goal.loop-flag-preserved
loop-flag-preserved c = record {
  checks = noted-next (here_of c.args.scope.now) c.args.flags.now c.loop-flag.flag-index c.flag-item.result c.loop-flag.names c.introduce_mark.new.marks _ c.loop-flag-test.true c.flag-item.is c.loop-flag.invariant.checks c.in_ok-name.ensures.ok c.in_ok-name.ensures.kept;
  parts = noted_flags-next c.args.flags.now c.loop-flag.flag-index c.flag-item.result (map member_field c.loop-flag.members) (map member_field c.push_member.new.members) c.in_ok-name.name (tree_of c.in_ok-tref.tref) _ c.loop-flag-test.true c.flag-item.is c.loop-flag.invariant.parts c.in_ok-push_member.ensures c.in_ok-name.ensures.id (c.in_ok-tref.ensures.cases ∙ c.requires);
}
