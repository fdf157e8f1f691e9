use Rattle.std.proofs.Common.{◌≡◌, ◌++◌, List, drop, map}
use Rattle.witx_ast.specs.Tree.{Field}
use Rattle.witx_ast.specs.Functions.{param_field}
use Rattle.witx_compat.specs.Polyfills.{without}
use Rattle.witx_compat.specs.Halves.{unknown_source, IsTable}
use Rattle.witx_compat.specs.Views.{unknown_view}
use Rattle.witx_compat.proofs.halves.put_unknown.Given as goal

abbrev pub invariant-loop-source : goal.invariant-loop-source
invariant-loop-source l = record {
  unknown : (targets : List Field) → IsTable l.by_name targets
      → map unknown_view l.made ++ without (unknown_source l.part) targets (map param_field (drop l.source-index l.sources))
      ≡ map unknown_view l.initial.made ++ without (unknown_source l.part) targets (map param_field l.sources);
}
