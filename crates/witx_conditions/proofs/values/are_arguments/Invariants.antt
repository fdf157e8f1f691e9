use Rattle.witx_conditions.proofs.Fitting.{ArgumentsFrom}
use Rattle.witx_conditions.proofs.values.are_arguments.Given as goal

abbrev pub invariant-loop-i : goal.invariant-loop-i
invariant-loop-i l = record { are : ArgumentsFrom l.params l.args l.i }
