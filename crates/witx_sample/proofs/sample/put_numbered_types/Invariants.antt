use Rattle.std.proofs.Common.{◌≡◌, ◌-◌, ◌++◌, string_bytes}
use Rattle.std.specs.List.{flat_map, range_with_len}
use Rattle.witx_sample.specs.Samples.{each_below, type_lines}
use Rattle.witx_sample.proofs.sample.put_numbered_types.Given as goal

abbrev pub invariant-loop-i : goal.invariant-loop-i
invariant-loop-i l = string_bytes l.text ++ flat_map type_lines (range_with_len l.i (l.n - l.i)) ≡ string_bytes l.initial.text ++ each_below type_lines l.n
