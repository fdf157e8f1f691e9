use Rattle.std.proofs.Common.{◌≡◌, ◌++◌, drop, map, string_bytes}
use Rattle.std.specs.List.{flat_map}
use Rattle.witx_header.specs.Bodies.{call_line}
use Rattle.witx_header.specs.Kept.{call_of}
use Rattle.witx_header.proofs.bodies.put_lines.Given as goal

abbrev pub invariant-loop-call : goal.invariant-loop-call
invariant-loop-call l =
    string_bytes l.text ++ flat_map call_line (map call_of (drop l.call-index l.calls)) ≡ string_bytes l.initial.text ++ flat_map call_line (map call_of l.calls)
