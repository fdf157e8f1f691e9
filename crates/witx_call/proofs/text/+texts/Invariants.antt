use Rattle.std.proofs.Common.{◌++◌}
use Rattle.std.specs.Prelude.{string_bytes}
use Rattle.witx_bytes.specs.Seen.{values_seen}
use Rattle.witx_call.specs.ValueTexts.{values_text}
use Rattle.witx_call.proofs.Texts.{ValuesLeft}
use Rattle.witx_call.proofs.text.+texts.Given as goal

abbrev pub invariant-put_values-loop-i : goal.invariant-put_values-loop-i
invariant-put_values-loop-i l = ValuesLeft l.values l.i (string_bytes l.text) (string_bytes l.initial.text ++ values_text 0 (values_seen l.values))
