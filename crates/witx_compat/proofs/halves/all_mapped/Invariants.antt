use Rattle.std.proofs.Common.{◌≡◌, ◌++◌, List, drop, map}
use Rattle.witx_ast.specs.Tree.{Field}
use Rattle.witx_ast.specs.Functions.{param_field}
use Rattle.witx_compat.specs.Polyfills.{paired}
use Rattle.witx_compat.specs.Halves.{pair_of, IsTable}
use Rattle.witx_compat.specs.Views.{mapped_view}
use Rattle.witx_compat.proofs.halves.all_mapped.Given as goal

abbrev pub invariant-loop-source : goal.invariant-loop-source
invariant-loop-source l = record {
  mapped : (targets : List Field) → IsTable l.by_name targets
      → map mapped_view l.made ++ paired (pair_of l.part) (map param_field (drop l.source-index l.sources)) targets ≡ paired (pair_of l.part) (map param_field l.sources) targets;
}
