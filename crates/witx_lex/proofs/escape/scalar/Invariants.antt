use Rattle.std.proofs.Common.{◌≡◌, ◌≤◌, drop}
use Rattle.witx_lex.specs.Characters.{scalar_value}
use Rattle.witx_lex.proofs.Scalars.{value_from}
use Rattle.witx_lex.proofs.escape.scalar.Given as goal

-- the digits so far write the code, which is no larger than a character's may be
abbrev pub invariant-digits : goal.invariant-digits
invariant-digits l = (l.code ≤ 0x10_FFFF) × (value_from 16 l.code (drop l.byte-index l.digits) ≡ scalar_value l.digits)
