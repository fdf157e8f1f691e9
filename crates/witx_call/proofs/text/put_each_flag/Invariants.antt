use Rattle.std.proofs.Common.{◌++◌}
use Rattle.std.specs.Prelude.{string_bytes}
use Rattle.witx_call.specs.ValueTexts.{flags_text}
use Rattle.witx_call.proofs.Texts.{FlagsLeft}
use Rattle.witx_call.proofs.text.put_each_flag.Given as goal

abbrev pub invariant-loop-i : goal.invariant-loop-i
invariant-loop-i l = FlagsLeft l.flags l.i (string_bytes l.text) (string_bytes l.initial.text ++ flags_text 0 l.flags)
