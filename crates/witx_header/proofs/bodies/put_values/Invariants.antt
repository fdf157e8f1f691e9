use Rattle.std.proofs.Common.{◌≡◌, ◌++◌, drop, map, string_bytes}
use Rattle.witx_ast.specs.Functions.{param_field}
use Rattle.witx_header.specs.Bodies.{field_lines}
use Rattle.witx_header.proofs.bodies.put_values.Given as goal

abbrev pub invariant-loop-place : goal.invariant-loop-place
invariant-loop-place l =
    string_bytes l.text ++ field_lines l.place (map param_field (drop l.place l.params)) ≡ string_bytes l.initial.text ++ field_lines 0 (map param_field l.params)
