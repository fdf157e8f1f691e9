use Rattle.std.proofs.Common.{◌≡◌, ◌++◌, length, drop, string_bytes}
use Rattle.std.specs.List.{flat_map}
use Rattle.std.specs.Str.{chars}
use Rattle.witx_adapt.specs.Names.{escaped}
use Rattle.witx_adapt.proofs.names.put_escaped.Given as goal

abbrev pub invariant-loop-c : goal.invariant-loop-c
invariant-loop-c l = string_bytes l.text ++ flat_map escaped (drop (length l.yielded) (chars l.name)) ≡ string_bytes l.initial.text ++ flat_map escaped (chars l.name)
