use Rattle.std.proofs.Common.{◌≡◌, ◌++◌, true, drop, string_bytes}
use Rattle.witx_docs.proofs.Conversions.{left_lines}
use Rattle.witx_docs.proofs.conversion_lines.put_conversions.Given as goal

abbrev pub invariant-loop-conversion : goal.invariant-loop-conversion
invariant-loop-conversion l =
    string_bytes l.out ++ left_lines l.first (drop l.conversion-index l.conversions) ≡ string_bytes l.initial.out ++ left_lines true l.conversions
