-- A run has at most one outcome.
use Rattle.std.proofs.Common.{◌≡◌, sym, ◌∙◌, ap, Option, Some, None}
use Rattle.witx_machine.specs.Outcomes.{AtMostOneOutcome}

same_one : {A : Type 0} (o : Option A) (x y : A) → o ≡ Some x → o ≡ Some y → x ≡ y
same_one {A} o x y e f = ap some_of (sym e ∙ f)
  where
    some_of : Option A → A
    some_of None = x
    some_of (Some z) = z

pub at_most_one_outcome : AtMostOneOutcome
at_most_one_outcome m f to caller callee arguments reply memory addresses o o' e e' = same_one _ o o' e e'
