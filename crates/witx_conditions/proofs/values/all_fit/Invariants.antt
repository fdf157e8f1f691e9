use Rattle.witx_conditions.proofs.Fitting.{FitFrom}
use Rattle.witx_conditions.proofs.values.all_fit.Given as goal

abbrev pub invariant-loop-param : goal.invariant-loop-param
invariant-loop-param l = record { fit : FitFrom l.params l.param-index }
