use Rattle.std.proofs.Common.{◌≡◌, ◌++◌, map, string_bytes}
use Rattle.witx_ast.specs.Tree.{arms_of, fields_of}
use Rattle.witx_ast.specs.Views.{case_arm, member_field}
use Rattle.witx_header.specs.CTypes.{members_text, payloads_text}
use Rattle.witx_header.proofs.Typing.{arms_from, fields_from}
use Rattle.witx_header.proofs.types.+typing.Given as goal

abbrev pub invariant-put_members-loop-member : goal.invariant-put_members-loop-member
invariant-put_members-loop-member l =
    string_bytes l.text ++ members_text (fields_from l.members l.member-index) ≡ string_bytes l.initial.text ++ members_text (fields_of (map member_field l.members))

abbrev pub invariant-put_payloads-loop-case : goal.invariant-put_payloads-loop-case
invariant-put_payloads-loop-case l =
    string_bytes l.text ++ payloads_text (arms_from l.cases l.case-index) ≡ string_bytes l.initial.text ++ payloads_text (arms_of (map case_arm l.cases))
