use Rattle.std.proofs.Common.{◌≡◌, ◌++◌, drop, string_bytes}
use Rattle.witx_header.specs.Typedefs.{placed_lines}
use Rattle.witx_header.proofs.layouts.put_each_offset.Given as goal

abbrev pub invariant-loop-layout : goal.invariant-loop-layout
invariant-loop-layout l = string_bytes l.text ++ placed_lines l.name (drop l.layout-index l.layouts) ≡ string_bytes l.initial.text ++ placed_lines l.name l.layouts
