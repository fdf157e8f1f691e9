use Rattle.std.proofs.Common.{◌≡◌, ◌++◌, drop, map, string_bytes}
use Rattle.witx_ast.specs.Views.{case_arm}
use Rattle.witx_header.specs.Typedefs.{case_lines}
use Rattle.witx_header.proofs.values.put_cases.Given as goal

abbrev pub invariant-loop-place : goal.invariant-loop-place
invariant-loop-place l =
    string_bytes l.text ++ case_lines l.name l.repr l.place (map case_arm (drop l.place l.cases)) ≡ string_bytes l.initial.text ++ case_lines l.name l.repr 0 (map case_arm l.cases)
