use Rattle.std.proofs.Common.{◌≡◌, drop, map}
use Rattle.std.specs.List.{flat_map}
use Rattle.witx_compat.specs.Once.{module_conversions}
use Rattle.witx_compat.specs.Seen.{TellsPairs, with_conversions}
use Rattle.witx_compat.specs.Views.{conversion_view, module_view}
use Rattle.witx_compat.proofs.once.Found.add_modules.Given as goal

abbrev pub invariant-loop-one : goal.invariant-loop-one
invariant-loop-one l = record {
  told : TellsPairs l.self.seen l.self.types;
  left : with_conversions (map conversion_view l.self.types) (flat_map module_conversions (map module_view (drop l.one-index l.modules)))
      ≡ with_conversions (map conversion_view l.initial.self.types) (flat_map module_conversions (map module_view l.modules));
}
