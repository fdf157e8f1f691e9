use Rattle.std.proofs.Common.{◌≡◌, ◌++◌, map, string_bytes}
use Rattle.witx_ast.specs.Tree.{fields_of}
use Rattle.witx_ast.specs.Views.{member_field}
use Rattle.witx_header.specs.Typedefs.{member_lines}
use Rattle.witx_header.proofs.Typing.{fields_from}
use Rattle.witx_header.proofs.typedefs.put_member_lines.Given as goal

abbrev pub invariant-loop-member : goal.invariant-loop-member
invariant-loop-member l = string_bytes l.text ++ member_lines (fields_from l.members l.member-index) ≡ string_bytes l.initial.text ++ member_lines (fields_of (map member_field l.members))
