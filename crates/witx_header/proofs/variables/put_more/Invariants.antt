use Rattle.std.proofs.Common.{◌≡◌, ◌++◌, drop, string_bytes}
use Rattle.std.specs.List.{flat_map}
use Rattle.witx_header.specs.Bodies.{behind_comma}
use Rattle.witx_header.proofs.variables.put_more.Given as goal

abbrev pub invariant-loop-variable : goal.invariant-loop-variable
invariant-loop-variable l = string_bytes l.text ++ flat_map behind_comma (drop l.variable-index l.more) ≡ string_bytes l.initial.text ++ flat_map behind_comma l.more
