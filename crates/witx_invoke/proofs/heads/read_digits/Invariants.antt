use Rattle.std.proofs.Common.{◌≡◌, length}
use Rattle.witx_invoke.specs.Reading.{digits_at}
use Rattle.witx_invoke.proofs.heads.read_digits.Given as goal

abbrev pub invariant-loop-digit : goal.invariant-loop-digit
invariant-loop-digit l = digits_at l.number l.rest ≡ digits_at 0 l.fn.text

abbrev pub decreases-loop-digit : goal.decreases-loop-digit
decreases-loop-digit l = length l.rest
