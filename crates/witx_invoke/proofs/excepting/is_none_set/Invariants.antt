use Rattle.witx_invoke.proofs.ExceptLemmas.{NoneFrom}
use Rattle.witx_invoke.proofs.excepting.is_none_set.Given as goal

abbrev pub invariant-loop-flag : goal.invariant-loop-flag
invariant-loop-flag l = NoneFrom l.flags l.flag-index
