use Rattle.std.proofs.Common.{◌≡◌, ◌++◌, drop, string_bytes}
use Rattle.std.specs.List.{flat_map}
use Rattle.witx_adapt.specs.Names.{spaced}
use Rattle.witx_adapt.proofs.names.put_more_words.Given as goal

abbrev pub invariant-loop-ty : goal.invariant-loop-ty
invariant-loop-ty l = string_bytes l.text ++ flat_map spaced (drop l.ty-index l.types) ≡ string_bytes l.initial.text ++ flat_map spaced l.types
