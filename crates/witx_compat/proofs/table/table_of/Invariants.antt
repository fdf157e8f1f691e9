use Rattle.std.proofs.Common.{◌≡◌, ℕ, List, drop, map}
use Rattle.witx_ast.specs.Functions.{param_field}
use Rattle.witx_compat.specs.Polyfills.{first_called}
use Rattle.witx_compat.specs.Halves.{named, earlier_field}
use Rattle.witx_compat.proofs.table.table_of.Given as goal

abbrev pub invariant-loop-param : goal.invariant-loop-param
invariant-loop-param l = record {
  first : (q : List ℕ) → earlier_field (named l.table q) (first_called q (map param_field (drop l.param-index l.params))) ≡ first_called q (map param_field l.params);
}
