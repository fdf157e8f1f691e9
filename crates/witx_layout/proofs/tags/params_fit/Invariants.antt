use Rattle.std.proofs.Common.{◌≡◌}
use Rattle.witx_layout.proofs.Misfitting.{left_params}
use Rattle.witx_layout.proofs.tags.params_fit.Given as goal

abbrev pub invariant-loop-param : goal.invariant-loop-param
invariant-loop-param l = left_params l.params l.param-index ≡ left_params l.params 0
