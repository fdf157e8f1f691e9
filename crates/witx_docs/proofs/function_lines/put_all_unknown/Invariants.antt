use Rattle.std.proofs.Common.{◌≡◌, ◌++◌, drop, string_bytes}
use Rattle.witx_docs.proofs.FunctionParts.{unknown_lines}
use Rattle.witx_docs.proofs.function_lines.put_all_unknown.Given as goal

abbrev pub invariant-loop-unknown : goal.invariant-loop-unknown
invariant-loop-unknown l = string_bytes l.out ++ unknown_lines l.word (drop l.unknown-index l.all) ≡ string_bytes l.initial.out ++ unknown_lines l.word l.all
