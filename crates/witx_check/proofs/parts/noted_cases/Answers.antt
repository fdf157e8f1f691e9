use Rattle.std.specs.Prelude.{map}
use Rattle.witx_ast.specs.Views.{case_arm}
use Rattle.witx_scope.specs.Senses.{here_of}
use Rattle.witx_check.proofs.Onward.{noted-next, noted_arms-next}
use Rattle.witx_check.proofs.parts.noted_cases.Goals as goal

pub loop-member-preserved : goal.loop-member-preserved
loop-member-preserved c = record {
  checks = noted-next (here_of c.args.scope.now) c.args.members.now c.loop-member.member-index c.member-item.result c.loop-member.names c.introduce_mark.new.marks _ c.loop-member-test.true c.member-item.is c.loop-member.invariant.checks c.in_ok-name.ensures.ok c.in_ok-name.ensures.kept;
  parts = noted_arms-next c.args.members.now c.loop-member.member-index c.member-item.result (map case_arm c.loop-member.cases) (map case_arm c.push_case.new.cases) c.in_ok-name.name _ c.loop-member-test.true c.member-item.is c.loop-member.invariant.parts c.in_ok-push_case.ensures c.in_ok-name.ensures.id;
}
