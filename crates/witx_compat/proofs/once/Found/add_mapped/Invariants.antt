use Rattle.std.proofs.Common.{◌≡◌, drop, map}
use Rattle.witx_compat.specs.Seen.{TellsPairs, with_conversions}
use Rattle.witx_compat.specs.Views.{conversion_view, mapped_view}
use Rattle.witx_compat.proofs.once.Found.add_mapped.Given as goal

abbrev pub invariant-loop-one : goal.invariant-loop-one
invariant-loop-one l = record {
  told : TellsPairs l.self.seen l.self.types;
  left : with_conversions (map conversion_view l.self.types) (map (λ m. m.conversion) (map mapped_view (drop l.one-index l.mapped)))
      ≡ with_conversions (map conversion_view l.initial.self.types) (map (λ m. m.conversion) (map mapped_view l.mapped));
}
