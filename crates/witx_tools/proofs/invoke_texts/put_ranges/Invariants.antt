use Rattle.std.proofs.Common.{◌≡◌, ◌++◌, drop, map, string_bytes}
use Rattle.std.specs.List.{flat_map}
use Rattle.witx_bytes.specs.Bytes.{held}
use Rattle.witx_call.specs.CallSeen.{placed_of}
use Rattle.witx_tools.specs.InvokeTexts.{range_line}
use Rattle.witx_tools.proofs.invoke_texts.put_ranges.Given as goal

abbrev pub invariant-loop-range : goal.invariant-loop-range
invariant-loop-range l =
    string_bytes l.text ++ flat_map (range_line (held l.memory)) (map placed_of (drop l.range-index l.taken))
    ≡ string_bytes l.initial.text ++ flat_map (range_line (held l.memory)) (map placed_of l.taken)
