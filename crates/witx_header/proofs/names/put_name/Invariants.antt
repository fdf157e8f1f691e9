use Rattle.std.proofs.Common.{◌≡◌, ◌++◌, drop, map, string_bytes}
use Rattle.witx_header.specs.CNames.{word_byte}
use Rattle.witx_header.proofs.names.put_name.Given as goal

abbrev pub invariant-loop-byte : goal.invariant-loop-byte
invariant-loop-byte l = string_bytes l.text ++ map word_byte (drop l.byte-index l.bytes) ≡ string_bytes l.initial.text ++ map word_byte l.bytes
