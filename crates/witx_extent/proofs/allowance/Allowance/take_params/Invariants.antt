use Rattle.std.proofs.Common.{◌≡◌, ◌+◌, drop}
use Rattle.witx_extent.specs.Extents.{params_extent}
use Rattle.witx_extent.proofs.allowance.Allowance.take_params.Given as goal

abbrev pub invariant-loop-param : goal.invariant-loop-param
invariant-loop-param l = l.self.left + params_extent l.params ≡ l.initial.self.left + params_extent (drop l.param-index l.params)
