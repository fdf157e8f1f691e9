use Rattle.std.proofs.Common.{◌≡◌, drop, map}
use Rattle.std.specs.List.{list_all}
use Rattle.witx_compat.specs.Conversions.{is_compatible}
use Rattle.witx_compat.specs.Views.{mapped_view}
use Rattle.witx_compat.proofs.functions.all_compatible.Given as goal

abbrev pub invariant-loop-one : goal.invariant-loop-one
invariant-loop-one l = record {
  compatible : list_all is_compatible (map mapped_view (drop l.one-index l.mapped)) ≡ list_all is_compatible (map mapped_view l.mapped);
}
