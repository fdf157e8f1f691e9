use Rattle.std.proofs.Common.{◌≡◌, drop, map}
use Rattle.std.specs.List.{flat_map}
use Rattle.witx_compat.specs.Once.{function_conversions}
use Rattle.witx_compat.specs.Seen.{TellsPairs, with_conversions}
use Rattle.witx_compat.specs.Views.{conversion_view, function_view}
use Rattle.witx_compat.proofs.once.Found.add_functions.Given as goal

abbrev pub invariant-loop-function : goal.invariant-loop-function
invariant-loop-function l = record {
  told : TellsPairs l.self.seen l.self.types;
  left : with_conversions (map conversion_view l.self.types) (flat_map function_conversions (map function_view (drop l.function-index l.functions)))
      ≡ with_conversions (map conversion_view l.initial.self.types) (flat_map function_conversions (map function_view l.functions));
}
