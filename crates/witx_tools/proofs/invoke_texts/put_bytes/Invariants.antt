use Rattle.std.proofs.Common.{◌++◌, string_bytes}
use Rattle.std.specs.List.{flat_map}
use Rattle.witx_machine.specs.Run.{numbers}
use Rattle.witx_bytes.specs.Bytes.{held}
use Rattle.witx_tools.specs.InvokeTexts.{byte_text}
use Rattle.witx_tools.proofs.Ranges.{BytesLeft}
use Rattle.witx_tools.proofs.invoke_texts.put_bytes.Given as goal

abbrev pub invariant-loop-i : goal.invariant-loop-i
invariant-loop-i l =
    BytesLeft (held l.memory) l.range.at l.range.len l.i (string_bytes l.text)
    (string_bytes l.initial.text ++ flat_map (λ at. byte_text (held l.memory at)) (numbers l.range.at l.range.len))
