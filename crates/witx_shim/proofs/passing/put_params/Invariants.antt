use Rattle.std.proofs.Common.{◌≡◌, ◌++◌, List, drop, map}
use Rattle.witx_ast.specs.Functions.{param_field}
use Rattle.witx_ast.specs.Tree.{Field}
use Rattle.witx_shim.specs.Numbers.{AreSpans, all_handed}
use Rattle.witx_shim.proofs.passing.put_params.Given as goal

abbrev pub invariant-loop-param : goal.invariant-loop-param
invariant-loop-param l = record {
  handed : (old : List Field) → AreSpans l.spans.by_name old
      → l.pass ++ all_handed old (map param_field (drop l.param-index l.params)) ≡ l.initial.pass ++ all_handed old (map param_field l.params);
}
