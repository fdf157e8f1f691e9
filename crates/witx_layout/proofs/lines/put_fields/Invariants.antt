use Rattle.std.proofs.Common.{◌≡◌, ◌++◌, drop, string_bytes}
use Rattle.witx_layout.proofs.Written.{placed_lines}
use Rattle.witx_layout.proofs.lines.put_fields.Given as goal

abbrev pub invariant-loop-layout : goal.invariant-loop-layout
invariant-loop-layout l = string_bytes l.out ++ placed_lines (drop l.layout-index l.layouts) ≡ string_bytes l.initial.out ++ placed_lines l.layouts
