use Rattle.witx_adapt.proofs.Digits.{one-digit}
use Rattle.witx_adapt.proofs.numbers.only_digit.Goals as goal

pub returns-clause-value : goal.returns-clause-value
returns-clause-value c = one-digit c.args.n c.requires
