use Rattle.witx_invoke.proofs.FitLoops.{FitFrom}
use Rattle.witx_invoke.proofs.fitting.types_fit.Given as goal

abbrev pub invariant-loop-param : goal.invariant-loop-param
invariant-loop-param l = FitFrom l.params l.param-index
