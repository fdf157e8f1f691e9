use Rattle.std.proofs.Common.{rules}
use Rattle.witx_invoke.proofs.ReadParts.{bits_taken, bits_refused}
use Rattle.witx_invoke.proofs.read.read_bits.Goals as goal

pub returns-in_err-flags : goal.returns-in_err-flags
returns-in_err-flags c = λ r. search (rules, bits_refused)

pub returns : goal.returns
returns c = λ r. search (rules, bits_taken)
