use Rattle.std.proofs.Common.{◌≡◌, ◌++◌, drop, map, string_bytes}
use Rattle.witx_header.specs.CNames.{upper_byte}
use Rattle.witx_header.proofs.names.put_upper.Given as goal

abbrev pub invariant-loop-byte : goal.invariant-loop-byte
invariant-loop-byte l = string_bytes l.text ++ map upper_byte (drop l.byte-index l.bytes) ≡ string_bytes l.initial.text ++ map upper_byte l.bytes
