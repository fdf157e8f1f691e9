use Rattle.std.proofs.Common.{◌≡◌, ◌++◌, drop, string_bytes}
use Rattle.std.specs.List.{flat_map}
use Rattle.witx_header.specs.CNames.{literal_byte}
use Rattle.witx_header.proofs.names.put_literal_bytes.Given as goal

abbrev pub invariant-loop-byte : goal.invariant-loop-byte
invariant-loop-byte l = string_bytes l.text ++ flat_map literal_byte (drop l.byte-index l.bytes) ≡ string_bytes l.initial.text ++ flat_map literal_byte l.bytes
