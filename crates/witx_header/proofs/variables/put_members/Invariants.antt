use Rattle.std.proofs.Common.{◌≡◌, ◌++◌, drop, string_bytes}
use Rattle.std.specs.List.{flat_map}
use Rattle.witx_header.specs.Bodies.{member}
use Rattle.witx_header.proofs.variables.put_members.Given as goal

abbrev pub invariant-loop-operand : goal.invariant-loop-operand
invariant-loop-operand l = string_bytes l.text ++ flat_map member (drop l.operand-index l.operands) ≡ string_bytes l.initial.text ++ flat_map member l.operands
