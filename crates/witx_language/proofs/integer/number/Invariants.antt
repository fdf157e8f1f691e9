use Rattle.std.proofs.Common.{◌≡◌, ◌<◌, ◌^◌, drop}
use Rattle.witx_language.specs.Integers.{number}
use Rattle.witx_lex.proofs.Scalars.{value_from}
use Rattle.witx_language.proofs.integer.number.Given as goal

-- the digits from here on write the rest of the number
abbrev pub invariant-digits : goal.invariant-digits
invariant-digits l = (l.value < 2 ^ 64) × (value_from l.base l.value (drop l.byte-index l.bytes) ≡ number l.base l.bytes)
