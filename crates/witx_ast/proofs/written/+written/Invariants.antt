use Rattle.std.proofs.Common.{◌≡◌, drop, map}
use Rattle.std.specs.List.{fold}
use Rattle.witx_ast.specs.Tree.{fields_of, arms_of}
use Rattle.witx_ast.specs.Views.{member_field, case_arm}
use Rattle.witx_ast.specs.Written.{members_writes, cases_writes}
use Rattle.witx_ast.proofs.written.+written.Given as goal

abbrev pub invariant-feed_members-loop-member : goal.invariant-feed_members-loop-member
invariant-feed_members-loop-member g l = record {
  fed : fold g.H.Hasher.write l.state (members_writes (fields_of (map member_field (drop l.member-index l.members))))
      ≡ fold g.H.Hasher.write l.initial.state (members_writes (fields_of (map member_field l.members)));
}

abbrev pub invariant-feed_cases-loop-case : goal.invariant-feed_cases-loop-case
invariant-feed_cases-loop-case g l = record {
  fed : fold g.H.Hasher.write l.state (cases_writes (arms_of (map case_arm (drop l.case-index l.cases))))
      ≡ fold g.H.Hasher.write l.initial.state (cases_writes (arms_of (map case_arm l.cases)));
}
