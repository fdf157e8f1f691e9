use Rattle.std.proofs.Common.{◌≡◌, ℕ, List, drop, map}
use Rattle.witx_compat.specs.Polyfills.{first_called}
use Rattle.witx_compat.specs.Halves.{named, earlier_field, target_of}
use Rattle.witx_compat.specs.Views.{mapped_view}
use Rattle.witx_compat.proofs.table.table_of_targets.Given as goal

abbrev pub invariant-loop-one : goal.invariant-loop-one
invariant-loop-one l = record {
  first : (q : List ℕ) → earlier_field (named l.table q) (first_called q (map (target_of l.part) (map mapped_view (drop l.one-index l.mapped))))
      ≡ first_called q (map (target_of l.part) (map mapped_view l.mapped));
}
