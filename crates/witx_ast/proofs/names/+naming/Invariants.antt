use Rattle.std.proofs.Common.{◌≡◌, map, drop, ◌++◌, string_bytes}
use Rattle.witx_ast.specs.Tree.{fields_of, arms_of}
use Rattle.witx_ast.specs.Views.{member_field, case_arm}
use Rattle.witx_ast.specs.TypeNames.{comma_joined, member_texts, payload_texts}
use Rattle.witx_ast.proofs.Naming.{joined_after}
use Rattle.witx_ast.proofs.names.+naming.Given as goal

abbrev pub invariant-put_members-loop-member : goal.invariant-put_members-loop-member
invariant-put_members-loop-member l =
    string_bytes l.out ++ joined_after l.first (member_texts (fields_of (map member_field (drop l.member-index l.members))))
    ≡ string_bytes l.initial.out ++ comma_joined (member_texts (fields_of (map member_field l.members)))

abbrev pub invariant-put_payloads-loop-case : goal.invariant-put_payloads-loop-case
invariant-put_payloads-loop-case l =
    string_bytes l.out ++ joined_after l.first (payload_texts (arms_of (map case_arm (drop l.case-index l.cases))))
    ≡ string_bytes l.initial.out ++ comma_joined (payload_texts (arms_of (map case_arm l.cases)))
