use Rattle.std.proofs.Common.{◌≡◌, ◌++◌, drop, string_bytes}
use Rattle.std.specs.List.{flat_map}
use Rattle.witx_tools.specs.ShimTexts.{spaced_number}
use Rattle.witx_tools.proofs.shim_texts.put_numbers.Given as goal

abbrev pub invariant-loop-number : goal.invariant-loop-number
invariant-loop-number l = string_bytes l.text ++ flat_map spaced_number (drop l.number-index l.numbers) ≡ string_bytes l.initial.text ++ flat_map spaced_number l.numbers
