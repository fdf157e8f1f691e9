use Rattle.std.proofs.Common.{◌≡◌, ◌++◌, map, string_bytes}
use Rattle.witx_ast.specs.Tree.{arms_of}
use Rattle.witx_ast.specs.Views.{case_arm}
use Rattle.witx_header.specs.Typedefs.{payload_lines}
use Rattle.witx_header.proofs.Typing.{arms_from}
use Rattle.witx_header.proofs.typedefs.put_payload_lines.Given as goal

abbrev pub invariant-loop-case : goal.invariant-loop-case
invariant-loop-case l = string_bytes l.text ++ payload_lines (arms_from l.cases l.case-index) ≡ string_bytes l.initial.text ++ payload_lines (arms_of (map case_arm l.cases))
