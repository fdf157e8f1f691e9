use Rattle.std.proofs.Common.{◌≡◌, ◌++◌, map, string_bytes}
use Rattle.witx_ast.specs.Tree.{fields_of}
use Rattle.witx_ast.specs.Views.{member_field}
use Rattle.witx_header.specs.Typedefs.{flag_lines}
use Rattle.witx_header.proofs.Typing.{fields_from}
use Rattle.witx_header.proofs.values.put_flags.Given as goal

abbrev pub invariant-loop-place : goal.invariant-loop-place
invariant-loop-place l =
    string_bytes l.text ++ flag_lines l.name l.repr l.place (fields_from l.members l.place) ≡ string_bytes l.initial.text ++ flag_lines l.name l.repr 0 (fields_of (map member_field l.members))
